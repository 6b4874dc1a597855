use Rattle.std.proofs.Common.{◌≡◌, take}
use Rattle.plain_text.specs.Units.{units_in}
use Rattle.dart_text.specs.Pieces.{spelt}
use Rattle.dart_text.proofs.pieces.pieces_to.Given as goal

abbrev pub invariant-loop-last : goal.invariant-loop-last
invariant-loop-last l = l.units ≡ units_in (spelt (take l.last l.pieces))
