use Rattle.std.proofs.Common.{arith}
use Rattle.dart_text.proofs.PieceLemmas.{units_fit}
use Rattle.dart_text.proofs.pieces.pieces_to.Goals as goal

pub overflow_add-units : goal.overflow_add-units
overflow_add-units c =
    omega (arith, units_fit c.args.pieces.now c.loop-last.last c.index-pieces-last.result c.loop-last-test.true c.index-pieces-last.is c.requires.short, c.units-units.ensures)
