use Rattle.std.proofs.Common.{◌+◌, ◌*◌, length}
use Rattle.std.specs.Prelude.{max}
use Rattle.core_emit.specs.Code.{in_order, height_of}
use Rattle.core_emit.proofs.Parts.{IsLeft}
use Rattle.core_emit.proofs.emission.+emit.Given as goal

-- each part is less deep than the whole
abbrev pub decreases-emit : goal.decreases-emit
decreases-emit l = 2 * height_of l.code + 1

abbrev pub decreases-emit_pair : goal.decreases-emit_pair
decreases-emit_pair l = 2 * max (height_of l.pair.first) (height_of l.pair.second) + 2

abbrev pub decreases-emit_parts : goal.decreases-emit_parts
decreases-emit_parts l = 2 * height_of (in_order l.parts.items)

abbrev pub decreases-emit_choice : goal.decreases-emit_choice
decreases-emit_choice l = 2 * max (height_of l.choice.first) (height_of l.choice.second) + 2

abbrev pub decreases-emit_loop : goal.decreases-emit_loop
decreases-emit_loop l = 2 * max (height_of l.repeated.condition) (height_of l.repeated.body) + 2

-- what is left goes on at the part that was made last
abbrev pub invariant-emit_parts-loop-part : goal.invariant-emit_parts-loop-part
invariant-emit_parts-loop-part l =
    IsLeft l.function l.initial.left.items l.initial.entry l.initial.points.items l.left.items l.entry l.points.items

abbrev pub decreases-emit_parts-loop-part : goal.decreases-emit_parts-loop-part
decreases-emit_parts-loop-part l = length l.left.items
