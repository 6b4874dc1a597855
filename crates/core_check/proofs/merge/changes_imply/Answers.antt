use Rattle.core_ir.specs.Values.{declared_at}
use Rattle.core_check.specs.declared.parts.Change.{Change}
use Rattle.core_check.specs.Known.{known_of}
use Rattle.core_check.specs.Types.{known_on}
use Rattle.core_check.specs.Accepted.{SlotImplies}
use Rattle.core_check.proofs.Listed.{all_further}
use Rattle.core_check.proofs.merge.changes_imply.Goals as goal

-- one change more
pub loop-change-preserved : goal.loop-change-preserved
loop-change-preserved c =
    all_further (λ (x : Change). SlotImplies c.args.context.program.now.rows.table (declared_at c.args.context.function.now x.slot.0) (known_on c.args.context.program.now c.args.context.function.now c.args.facts.now c.args.changes.now x.slot.0) (known_of c.args.after.now x.slot.0))
    c.args.changes.now c.loop-change.change-index _ c.loop-change-test.true c.loop-change.invariant (c.in_ok-sure.ensures c.if-not-sure.false)
