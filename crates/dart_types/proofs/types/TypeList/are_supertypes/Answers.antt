use Rattle.std.proofs.Common.{List, ◌∙◌, subst, arith}
use Rattle.std.specs.Prelude.{All}
use Rattle.dart_types.specs.Ty.{Ty}
use Rattle.dart_types.specs.WellFormed.{IsSupertype}
use Rattle.dart_types.proofs.RowTests.{all_next, all_done}
use Rattle.dart_types.proofs.Steps.{yes, granted}
use Rattle.dart_types.proofs.types.TypeList.are_supertypes.Goals as goal

pub loop-item-preserved : goal.loop-item-preserved
loop-item-preserved c =
    all_next (IsSupertype c.args.params.now) c.deref-item-items.result.now c.loop-item.item-index c.item-item.result c.loop-item-test.true c.item-item.is c.loop-item.invariant (granted c.is_supertype.ensures c.if-not-is_supertype.false)

pub returns : goal.returns
returns c =
    yes (subst (λ (xs : List Ty). All (IsSupertype c.args.params.now) xs) (c.deref-item-items.ensures.value ∙ c.self.view_is) (all_done (IsSupertype c.args.params.now) c.deref-item-items.result.now c.loop-item.item-index (omega arith) c.loop-item.invariant))
