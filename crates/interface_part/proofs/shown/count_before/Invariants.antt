use Rattle.std.proofs.Common.{◌≡◌, ◌+◌, drop}
use Rattle.interface_part.specs.Interface.{count_before}
use Rattle.interface_part.proofs.shown.count_before.Given as goal

abbrev pub invariant-loop-at : goal.invariant-loop-at
invariant-loop-at l = count_before l.offset l.tokens ≡ l.at + count_before l.offset (drop l.at l.tokens)
