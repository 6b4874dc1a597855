use Rattle.core_check.specs.Faults.{way_faults}
use Rattle.core_check.specs.Checks.{part_of}
use Rattle.core_check.proofs.Told.{told, for_item}
use Rattle.core_check.proofs.ways.check_part.Goals as goal

-- the way's miss is for all ways
pub returns-in_err-check_way : goal.returns-in_err-check_way
returns-in_err-check_way c =
    told c.from_residual.result _ _ c.from_residual.ensures.1
    (for_item (way_faults c.args.context.program.now c.args.context.function.now c.args.facts.now (part_of c.args.part)) c.args.ways.now c.loop-way.way-index c.way-item.result _ c.loop-way-test.true c.way-item.is c.loop-way.invariant c.in_err-check_way.ensures)
