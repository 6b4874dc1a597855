use Rattle.std.proofs.Common.{sym, subst}
use Rattle.core_check.specs.Named.{IsNamed}
use Rattle.core_check.specs.NamedSlots.{named}
use Rattle.core_check.proofs.points.check_reached.Goals as goal

-- the function has the slots of the shape, and so what its parts name
pub check_shape-told-requires-clause-named_in : goal.check_shape-told-requires-clause-named_in
check_shape-told-requires-clause-named_in c =
    subst (IsNamed c.args.context.function.now) (sym c.in_ok-shape.ensures) (named c.args.context.function.now c.args.term c.requires.shape_in.slots_in)
