use Rattle.std.proofs.Common.{arith}
use Rattle.core_emit.proofs.Parts.{last_falls, last_fits, left_next}
use Rattle.core_emit.proofs.emission.+emit.Goals as goal

pub emit_parts-emit-requires : goal.emit_parts-emit-requires
emit_parts-emit-requires t c =
    let falls = last_falls c.args.function c.args.parts.items c.args.next c.args.points.now.items c.loop-part.left.items c.loop-part.entry c.loop-part.points.items c.loop-part.invariant c.pop.new.self.items c.in-Some.part c.in-Some.ensures.items in
    let fits = last_fits c.args.function c.args.parts.items c.args.next c.args.points.now.items c.loop-part.left.items c.loop-part.entry c.loop-part.points.items c.loop-part.invariant c.pop.new.self.items c.in-Some.part c.in-Some.ensures.items in
    (omega (arith, falls, c.decreases), omega (arith, fits, c.requires))

pub emit_parts-loop-part-preserved : goal.emit_parts-loop-part-preserved
emit_parts-loop-part-preserved t c =
    left_next c.args.function c.args.parts.items c.args.next c.args.points.now.items c.loop-part.left.items c.loop-part.entry c.loop-part.points.items c.loop-part.invariant c.pop.new.self.items c.in-Some.part c.in-Some.ensures.items
    c.in_ok-entry.entry c.emit.new.points.items c.in_ok-entry.ensures.made c.in_ok-entry.ensures.long
