use Rattle.std.proofs.Common.{◌≡◌, ◌++◌, length}
use denote.Shadow.{shadow}
use denote.Text.{Utf8}
use Rattle.dart_text.specs.Pieces.{spelt}
use Rattle.dart_text.proofs.pieces.pieces_of.Given as goal

-- the rest is text, and comes behind the pieces that are cut
abbrev pub invariant-loop-rest : goal.invariant-loop-rest
invariant-loop-rest l = record {
  utf8 : shadow (Utf8 l.rest);
  joins : spelt l.pieces.items ++ l.rest ≡ l.text;
}

abbrev pub decreases-loop-rest : goal.decreases-loop-rest
decreases-loop-rest l = length l.rest
