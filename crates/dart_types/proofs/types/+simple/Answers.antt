use Rattle.std.proofs.Common.{◌≡◌, List, IsTrue, ap, sym, ◌∙◌, subst, arith}
use Rattle.std.specs.Prelude.{◌↔◌, All}
use Rattle.dart_types.specs.Ty.{Ty, interface, types_of}
use Rattle.dart_types.specs.Node.{type_of}
use Rattle.dart_types.specs.WellFormed.{IsSimple}
use Rattle.dart_types.proofs.RowTests.{all_next, all_done, simple_from, simple_to}
use Rattle.dart_types.proofs.Steps.{yes, granted, through}
use Rattle.dart_types.proofs.types.+simple.Goals as goal

-- the arguments decide
pub DartType::is_simple-returns-in-Interface : goal.DartType::is_simple-returns-in-Interface
DartType::is_simple-returns-in-Interface t c =
    let args = c.deref.result.now in
    let is : interface c.in-Interface.class (types_of args) ≡ c.args.self.now = ap (λ (us : List Ty). interface c.in-Interface.class (types_of us)) c.deref.ensures ∙ ap type_of (sym c.in-Interface.is) ∙ c.self.view_is in
    subst (λ (t' : Ty). IsTrue c.are_simple.result ↔ IsSimple c.args.params.now t') is (through (simple_from c.args.params.now args) (simple_to c.args.params.now args) c.are_simple.ensures)

pub TypeList::are_simple-loop-item-preserved : goal.TypeList::are_simple-loop-item-preserved
TypeList::are_simple-loop-item-preserved t c =
    all_next (IsSimple c.args.params.now) c.deref-item-items.result.now c.loop-item.item-index c.item-item.result c.loop-item-test.true c.item-item.is c.loop-item.invariant (granted c.is_simple.ensures c.if-not-is_simple.false)

pub TypeList::are_simple-returns : goal.TypeList::are_simple-returns
TypeList::are_simple-returns t c =
    yes (subst (λ (xs : List Ty). All (IsSimple c.args.params.now) xs) (c.deref-item-items.ensures.value ∙ c.self.view_is) (all_done (IsSimple c.args.params.now) c.deref-item-items.result.now c.loop-item.item-index (omega arith) c.loop-item.invariant))
