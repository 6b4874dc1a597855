use Rattle.std.proofs.Common.{◌≡◌, length, ap, arith}
use Rattle.core_ir.specs.Program.{Function}
use Rattle.core_check.specs.Faults.{slot_on}
use Rattle.core_check.specs.Checks.{part_of}
use Rattle.core_check.proofs.Told.{told, for_slot}
use Rattle.core_check.proofs.ways.check_way.Goals as goal

-- the slot's miss is for the way
pub returns-in_err-check_slot : goal.returns-in_err-check_slot
returns-in_err-check_slot c =
    let long : length c.function.inside.slots.items ≡ length c.args.context.function.now.slots = ap (λ (g : Function). length g.slots) c.function.view_is in
    told c.from_residual.result _ _ c.from_residual.ensures.1
    (for_slot _ (length c.args.context.function.now.slots) c.loop-slot.slot (slot_on c.args.context.program.now c.args.context.function.now c.args.facts.now (part_of c.args.part) c.args.way.now) (omega (arith, long)) c.loop-slot.invariant c.in_err-check_slot.ensures)
