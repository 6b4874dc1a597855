use Rattle.std.proofs.Common.{◌≡◌, ◌≤◌, length, take}
use Rattle.elaborate.specs.Known.{facts_of_locals}
use Rattle.elaborate.proofs.builder.lists_locals.Given as goal

-- what is known of the locals before the place are the first facts
abbrev pub invariant-loop-place : goal.invariant-loop-place
invariant-loop-place l = record {
  within : l.count ≤ length l.facts.listed;
  listed : take l.count l.facts.listed ≡ facts_of_locals l.said (take l.place l.flow.locals);
}
