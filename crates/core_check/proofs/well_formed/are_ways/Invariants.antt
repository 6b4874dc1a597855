use Rattle.std.proofs.Common.{◌<◌, ℕ}
use Rattle.std.specs.Prelude.{slice_index_or}
use Rattle.core_check.specs.Shapes.{WayShape}
use Rattle.core_check.specs.WellFormed.{IsWay}
use Rattle.core_check.proofs.well_formed.are_ways.Given as goal

abbrev pub invariant-loop-way : goal.invariant-loop-way
invariant-loop-way l = (k : ℕ) (d : WayShape) → k < l.way-index → IsWay l.program l.number.0 (slice_index_or l.ways k d)
