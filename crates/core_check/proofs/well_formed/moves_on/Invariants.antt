use Rattle.std.proofs.Common.{◌<◌, ◌≢◌, ℕ}
use Rattle.std.specs.Prelude.{slice_index_or}
use Rattle.core_check.specs.Shapes.{WayShape}
use Rattle.core_check.proofs.well_formed.moves_on.Given as goal

abbrev pub invariant-loop-way : goal.invariant-loop-way
invariant-loop-way l = (k : ℕ) (d : WayShape) → k < l.way-index → (slice_index_or l.ways k d).next.0 ≢ l.number
