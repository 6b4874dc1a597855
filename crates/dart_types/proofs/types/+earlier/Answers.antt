use Rattle.std.proofs.Common.{◌≡◌, List, IsTrue, ap, sym, ◌∙◌, subst, arith}
use Rattle.std.specs.Prelude.{◌↔◌, All}
use Rattle.dart_types.specs.Ty.{Ty, interface, types_of}
use Rattle.dart_types.specs.Node.{type_of}
use Rattle.dart_types.specs.WellFormed.{IsEarlier}
use Rattle.dart_types.specs.declared.types.NamedType.{NamedType}
use Rattle.dart_types.proofs.RowTests.{all_next, all_done, earlier_from, earlier_to, earlier_names_from, earlier_names_to}
use Rattle.dart_types.proofs.Steps.{yes, no, granted, refused, through}
use Rattle.dart_types.proofs.types.+earlier.Goals as goal

-- the arguments decide
pub DartType::is_earlier-returns-in-Interface : goal.DartType::is_earlier-returns-in-Interface
DartType::is_earlier-returns-in-Interface t c =
    let args = c.deref.result.now in
    let is : interface c.in-Interface.class (types_of args) ≡ c.args.self.now = ap (λ (us : List Ty). interface c.in-Interface.class (types_of us)) c.deref.ensures ∙ ap type_of (sym c.in-Interface.is) ∙ c.self.view_is in
    subst (λ (t' : Ty). IsTrue c.are_earlier.result ↔ IsEarlier c.args.x t') is (through (earlier_from c.args.x args) (earlier_to c.args.x args) c.are_earlier.ensures)

-- a function type is refused by one of its parts
pub FunctionType::is_earlier-returns-then-not-are_earlier : goal.FunctionType::is_earlier-returns-then-not-are_earlier
FunctionType::is_earlier-returns-then-not-are_earlier t c =
    no (λ p. refused c.are_earlier.ensures c.if-not-are_earlier.true (earlier_to c.args.x c.args.self.now.required p.0))

pub FunctionType::is_earlier-returns-then-not-are_earlier-2 : goal.FunctionType::is_earlier-returns-then-not-are_earlier-2
FunctionType::is_earlier-returns-then-not-are_earlier-2 t c =
    no (λ p. refused c.are_earlier-2.ensures c.if-not-are_earlier-2.true (earlier_to c.args.x c.args.self.now.optional p.1))

pub FunctionType::is_earlier-returns-then-not-are_earlier-3 : goal.FunctionType::is_earlier-returns-then-not-are_earlier-3
FunctionType::is_earlier-returns-then-not-are_earlier-3 t c =
    no (λ p. refused c.are_earlier-3.ensures c.if-not-are_earlier-3.true (earlier_names_to c.args.x c.args.self.now.named p.2))

-- or its result decides
pub FunctionType::is_earlier-returns : goal.FunctionType::is_earlier-returns
FunctionType::is_earlier-returns t c =
    let f = c.args.self.now in
    let required = earlier_from c.args.x f.required (granted c.are_earlier.ensures c.if-not-are_earlier.false) in
    let optional = earlier_from c.args.x f.optional (granted c.are_earlier-2.ensures c.if-not-are_earlier-2.false) in
    let named = earlier_names_from c.args.x f.named (granted c.are_earlier-3.ensures c.if-not-are_earlier-3.false) in
    through (λ r. (required, optional, named, r)) (λ p. p.3) c.is_earlier.ensures

pub TypeList::are_earlier-loop-item-preserved : goal.TypeList::are_earlier-loop-item-preserved
TypeList::are_earlier-loop-item-preserved t c =
    all_next (IsEarlier c.args.x) c.deref-item-items.result.now c.loop-item.item-index c.item-item.result c.loop-item-test.true c.item-item.is c.loop-item.invariant (granted c.is_earlier.ensures c.if-not-is_earlier.false)

pub TypeList::are_earlier-returns : goal.TypeList::are_earlier-returns
TypeList::are_earlier-returns t c =
    yes (subst (λ (xs : List Ty). All (IsEarlier c.args.x) xs) (c.deref-item-items.ensures.value ∙ c.self.view_is) (all_done (IsEarlier c.args.x) c.deref-item-items.result.now c.loop-item.item-index (omega arith) c.loop-item.invariant))

pub NamedTypes::are_earlier-loop-item-preserved : goal.NamedTypes::are_earlier-loop-item-preserved
NamedTypes::are_earlier-loop-item-preserved t c =
    all_next (λ (n : NamedType). IsEarlier c.args.x n.ty) c.deref-item-items.result.now c.loop-item.item-index c.item-item.result c.loop-item-test.true c.item-item.is c.loop-item.invariant (granted c.is_earlier.ensures c.if-not-is_earlier.false)

pub NamedTypes::are_earlier-returns : goal.NamedTypes::are_earlier-returns
NamedTypes::are_earlier-returns t c =
    yes (subst (λ (xs : List NamedType). All (λ (n : NamedType). IsEarlier c.args.x n.ty) xs) (c.deref-item-items.ensures.value ∙ c.self.view_is) (all_done (λ (n : NamedType). IsEarlier c.args.x n.ty) c.deref-item-items.result.now c.loop-item.item-index (omega arith) c.loop-item.invariant))
