use Rattle.std.proofs.Common.{◌≡◌, ◌+◌, ◌-◌}
use Rattle.segment_faults.specs.Faults.{first_fault}
use Rattle.segment_faults.proofs.segment.first_fault.Given as goal

abbrev pub invariant-loop-place : goal.invariant-loop-place
invariant-loop-place l = first_fault l.tokens l.first l.first l.count ≡ first_fault l.tokens l.first l.place (l.first + l.count - l.place)
