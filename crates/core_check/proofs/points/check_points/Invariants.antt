use Rattle.std.proofs.Common.{◌≡◌, ◌<◌, ℕ, []}
use Rattle.core_check.specs.Faults.{faults_at}
use Rattle.core_check.proofs.points.check_points.Given as goal

abbrev pub invariant-loop-number : goal.invariant-loop-number
invariant-loop-number l = (k : ℕ) → k < l.number → faults_at l.program k ≡ []
