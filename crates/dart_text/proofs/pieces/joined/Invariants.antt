use Rattle.std.proofs.Common.{◌≡◌, take, string_bytes}
use Rattle.dart_text.specs.Pieces.{spelt}
use Rattle.dart_text.proofs.pieces.joined.Given as goal

abbrev pub invariant-loop-piece : goal.invariant-loop-piece
invariant-loop-piece l = string_bytes l.text ≡ spelt (take l.piece-index l.pieces)
