use Rattle.std.proofs.Common.{◌≡◌}
use Rattle.dart_types.specs.Measure.{weight_of}
use Rattle.judgement.specs.Receivers.{member_type}
use Rattle.resolve.proofs.judge.receivers.member_type.Given as goal

-- the members of what is left are those of the whole
abbrev pub invariant-loop-next : goal.invariant-loop-next
invariant-loop-next l = member_type l.rows.table l.left ≡ member_type l.rows.table l.t

abbrev pub decreases-loop-next : goal.decreases-loop-next
decreases-loop-next l = weight_of l.rows.table l.left
