use Rattle.std.proofs.Common.{arith}
use Rattle.dart_text.specs.Edits.{short_text}
use Rattle.dart_text.proofs.text.Text.from_str.Goals as goal

pub returns-then-text-gt-MAX_TEXT : goal.returns-then-text-gt-MAX_TEXT
unfolding short_text
returns-then-text-gt-MAX_TEXT c = grind arith

pub returns : goal.returns
unfolding short_text
returns c = let is = c.in_ok-text.ensures.ok in grind arith
