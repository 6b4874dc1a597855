use Rattle.std.proofs.Common.{◌<◌, ℕ}
use Rattle.std.specs.Prelude.{slice_index_or}
use Rattle.core_ir.specs.Values.{declared_at}
use Rattle.core_check.specs.declared.parts.Change.{Change}
use Rattle.core_check.specs.Known.{known_of}
use Rattle.core_check.specs.Types.{known_on}
use Rattle.core_check.specs.Accepted.{SlotImplies}
use Rattle.core_check.proofs.merge.changes_imply.Given as goal

abbrev pub invariant-loop-change : goal.invariant-loop-change
invariant-loop-change l =
    (k : ℕ) (d : Change) → k < l.change-index
    → SlotImplies l.context.program.now.rows.table (declared_at l.context.function.now (slice_index_or l.changes k d).slot.0) (known_on l.context.program.now l.context.function.now l.facts l.changes (slice_index_or l.changes k d).slot.0) (known_of l.after (slice_index_or l.changes k d).slot.0)
