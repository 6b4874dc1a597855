use Rattle.std.proofs.Common.{◌≡◌, ◌+◌, ◌++◌, length, map, take, Some}
use Rattle.interface_part.specs.Numbers.{seen_from}
use Rattle.interface_part.proofs.numbers.see_tokens.Given as goal

abbrev pub invariant-loop-token : goal.invariant-loop-token
invariant-loop-token l = l.seen.items ≡ l.initial.seen.items ++ seen_from (length l.initial.seen.items + l.marks) (map Some (take l.token-index l.tokens))
