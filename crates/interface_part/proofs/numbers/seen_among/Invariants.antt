use Rattle.std.proofs.Common.{◌≡◌, ◌+◌, ◌≤◌, ◌++◌, length, drop}
use Rattle.interface_part.specs.Numbers.{seen_from, tokens_of_parts}
use Rattle.interface_part.proofs.numbers.seen_among.Given as goal

abbrev pub invariant-loop-range : goal.invariant-loop-range
invariant-loop-range l = (seen_from 0 (tokens_of_parts l.hidden l.tokens) ≡ l.seen.items ++ seen_from (length l.seen.items + l.marks) (tokens_of_parts (drop l.range-index l.hidden) l.rest)) × (l.marks ≤ l.range-index)
