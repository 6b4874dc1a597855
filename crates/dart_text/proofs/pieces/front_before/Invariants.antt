use Rattle.std.proofs.Common.{◌≡◌, ◌≤◌, take}
use Rattle.plain_text.specs.Units.{units_in}
use Rattle.dart_text.specs.Pieces.{spelt}
use Rattle.dart_text.proofs.pieces.front_before.Given as goal

abbrev pub invariant-loop-piece : goal.invariant-loop-piece
invariant-loop-piece l = record {
  pieces : l.front.pieces ≡ l.piece-index;
  units : l.front.units ≡ units_in (spelt (take l.piece-index l.pieces));
  reached : l.front.units ≤ l.offset;
}
