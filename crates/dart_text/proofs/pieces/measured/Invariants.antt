use Rattle.std.proofs.Common.{◌≡◌, length, take}
use Rattle.plain_text.specs.Units.{units_in}
use Rattle.dart_text.specs.Pieces.{spelt}
use Rattle.dart_text.proofs.pieces.measured.Given as goal

abbrev pub invariant-loop-piece : goal.invariant-loop-piece
invariant-loop-piece l = record {
  bytes : l.bytes ≡ length (spelt (take l.piece-index l.pieces));
  units : l.units ≡ units_in (spelt (take l.piece-index l.pieces));
}
