use Rattle.std.proofs.Common.{◌≡◌, List, IsTrue, ap, sym, ◌∙◌, subst, arith}
use Rattle.std.specs.Prelude.{◌↔◌, All}
use Rattle.dart_types.specs.Ty.{Ty, interface, types_of}
use Rattle.dart_types.specs.Node.{type_of}
use Rattle.dart_types.specs.Tables.{Table, class_of}
use Rattle.dart_types.specs.WellFormed.{IsOver, HasArguments}
use Rattle.dart_types.specs.declared.types.NamedType.{NamedType}
use Rattle.dart_types.specs.Unions.{beside}
use Rattle.dart_types.proofs.RowTests.{all_next, all_done, over_from, over_to, over_names_from, over_names_to}
use Rattle.dart_types.proofs.Steps.{yes, no, granted, refused, through}
use Rattle.dart_types.proofs.types.+over.Goals as goal

-- the class has a row that fits, so the arguments decide
pub DartType::is_over-returns-else-not-has_arguments : goal.DartType::is_over-returns-else-not-has_arguments
DartType::is_over-returns-else-not-has_arguments t c =
    let table : Table = beside c.args.below.now.table (record { classes = c.args.classes.now; vars = c.args.vars.now }) in
    let args = c.deref-in-Interface.result.now in
    let same : c.deref.result.now ≡ args = c.deref.ensures ∙ sym c.deref-in-Interface.ensures in
    let fits : HasArguments (class_of table c.in-Interface.class) (types_of args) = subst (λ (us : List Ty). HasArguments (class_of table c.in-Interface.class) (types_of us)) same (granted c.has_arguments.ensures c.if-not-has_arguments.false) in
    let is : interface c.in-Interface.class (types_of args) ≡ c.args.self.now = ap (λ (us : List Ty). interface c.in-Interface.class (types_of us)) c.deref-in-Interface.ensures ∙ ap type_of (sym c.in-Interface.is) ∙ c.self.view_is in
    subst (λ (t' : Ty). IsTrue c.are_over.result ↔ IsOver table t') is (through (λ h. (fits, over_from table args h)) (λ p. over_to table args p.1) c.are_over.ensures)

-- a function type is refused by one of its parts
pub FunctionType::is_over-returns-then-not-are_over : goal.FunctionType::is_over-returns-then-not-are_over
FunctionType::is_over-returns-then-not-are_over t c =
    no (λ p. refused c.are_over.ensures c.if-not-are_over.true (over_to (beside c.args.below.now.table (record { classes = c.args.classes.now; vars = c.args.vars.now })) c.args.self.now.required p.0))

pub FunctionType::is_over-returns-then-not-are_over-2 : goal.FunctionType::is_over-returns-then-not-are_over-2
FunctionType::is_over-returns-then-not-are_over-2 t c =
    no (λ p. refused c.are_over-2.ensures c.if-not-are_over-2.true (over_to (beside c.args.below.now.table (record { classes = c.args.classes.now; vars = c.args.vars.now })) c.args.self.now.optional p.1))

pub FunctionType::is_over-returns-then-not-are_over-3 : goal.FunctionType::is_over-returns-then-not-are_over-3
FunctionType::is_over-returns-then-not-are_over-3 t c =
    no (λ p. refused c.are_over-3.ensures c.if-not-are_over-3.true (over_names_to (beside c.args.below.now.table (record { classes = c.args.classes.now; vars = c.args.vars.now })) c.args.self.now.named p.2))

-- or its result decides
pub FunctionType::is_over-returns : goal.FunctionType::is_over-returns
FunctionType::is_over-returns t c =
    let f = c.args.self.now in
    let required = over_from (beside c.args.below.now.table (record { classes = c.args.classes.now; vars = c.args.vars.now })) f.required (granted c.are_over.ensures c.if-not-are_over.false) in
    let optional = over_from (beside c.args.below.now.table (record { classes = c.args.classes.now; vars = c.args.vars.now })) f.optional (granted c.are_over-2.ensures c.if-not-are_over-2.false) in
    let named = over_names_from (beside c.args.below.now.table (record { classes = c.args.classes.now; vars = c.args.vars.now })) f.named (granted c.are_over-3.ensures c.if-not-are_over-3.false) in
    through (λ r. (required, optional, named, r)) (λ p. p.3) c.is_over.ensures

pub TypeList::are_over-loop-item-preserved : goal.TypeList::are_over-loop-item-preserved
TypeList::are_over-loop-item-preserved t c =
    all_next (IsOver (beside c.args.below.now.table (record { classes = c.args.classes.now; vars = c.args.vars.now }))) c.deref-item-items.result.now c.loop-item.item-index c.item-item.result c.loop-item-test.true c.item-item.is c.loop-item.invariant (granted c.is_over.ensures c.if-not-is_over.false)

pub TypeList::are_over-returns : goal.TypeList::are_over-returns
TypeList::are_over-returns t c =
    yes (subst (λ (xs : List Ty). All (IsOver (beside c.args.below.now.table (record { classes = c.args.classes.now; vars = c.args.vars.now }))) xs) (c.deref-item-items.ensures.value ∙ c.self.view_is) (all_done (IsOver (beside c.args.below.now.table (record { classes = c.args.classes.now; vars = c.args.vars.now }))) c.deref-item-items.result.now c.loop-item.item-index (omega arith) c.loop-item.invariant))

pub NamedTypes::are_over-loop-item-preserved : goal.NamedTypes::are_over-loop-item-preserved
NamedTypes::are_over-loop-item-preserved t c =
    all_next (λ (n : NamedType). IsOver (beside c.args.below.now.table (record { classes = c.args.classes.now; vars = c.args.vars.now })) n.ty) c.deref-item-items.result.now c.loop-item.item-index c.item-item.result c.loop-item-test.true c.item-item.is c.loop-item.invariant (granted c.is_over.ensures c.if-not-is_over.false)

pub NamedTypes::are_over-returns : goal.NamedTypes::are_over-returns
NamedTypes::are_over-returns t c =
    yes (subst (λ (xs : List NamedType). All (λ (n : NamedType). IsOver (beside c.args.below.now.table (record { classes = c.args.classes.now; vars = c.args.vars.now })) n.ty) xs) (c.deref-item-items.ensures.value ∙ c.self.view_is) (all_done (λ (n : NamedType). IsOver (beside c.args.below.now.table (record { classes = c.args.classes.now; vars = c.args.vars.now })) n.ty) c.deref-item-items.result.now c.loop-item.item-index (omega arith) c.loop-item.invariant))
