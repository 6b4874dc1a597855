use Rattle.std.proofs.Common.{◌<◌, ℕ}
use Rattle.std.specs.Prelude.{slice_index_or}
use Rattle.core_check.specs.Shapes.{WayShape}
use Rattle.core_check.specs.Accepted.{Leads}
use Rattle.core_check.proofs.ways.all_lead.Given as goal

abbrev pub invariant-loop-way : goal.invariant-loop-way
invariant-loop-way l = (k : ℕ) (d : WayShape) → k < l.way-index → Leads l.context.program.now l.context.function.now l.facts (slice_index_or l.ways k d)
