use Rattle.std.proofs.Common.{◌≡◌, drop}
use Rattle.rule_laws.specs.Keys.{numbers_said}
use Rattle.elaborate.specs.Elaborated.{past_all}
use Rattle.elaborate.proofs.slots.slot_count.Given as goal

-- it is past the numbers that those from the index on say
abbrev pub invariant-loop-i : goal.invariant-loop-i
invariant-loop-i l = l.past ≡ past_all (numbers_said (drop l.i l.typed))
