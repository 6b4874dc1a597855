use Rattle.std.proofs.Common.{arith, length, ap, List, ℕ}
use Rattle.dart_text.proofs.PieceLemmas.{bytes_fit, units_fit}
use Rattle.dart_text.proofs.pieces.measured.Goals as goal

pub overflow_add-bytes : goal.overflow_add-bytes
overflow_add-bytes c =
    omega (arith, bytes_fit c.args.pieces.now c.loop-piece.piece-index c.piece-item.result c.loop-piece-test.true c.piece-item.is c.requires, ap (λ (l : List ℕ). length l) c.as_str.ensures)

pub overflow_add-units : goal.overflow_add-units
overflow_add-units c =
    omega (arith, units_fit c.args.pieces.now c.loop-piece.piece-index c.piece-item.result c.loop-piece-test.true c.piece-item.is c.requires, c.units-units.ensures)
