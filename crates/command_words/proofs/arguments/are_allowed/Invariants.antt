use Rattle.std.proofs.Common.{◌≡◌, is_some, drop}
use Rattle.std.specs.Prelude.{option_and_then}
use Rattle.command_words.specs.Words.{allowed_in, given_from, if_allowed}
use Rattle.command_words.proofs.arguments.are_allowed.Given as goal

-- what is left is allowed as all of it was
abbrev pub invariant-loop-word : goal.invariant-loop-word
invariant-loop-word l = is_some (option_and_then (if_allowed l.allowed) (given_from (drop l.word-index l.words) l.place)) ≡ is_some (allowed_in l.fn.allowed l.words)
