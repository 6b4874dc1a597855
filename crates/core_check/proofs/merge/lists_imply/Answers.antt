use Rattle.std.proofs.Common.{sym, ◌∙◌}
use Rattle.core_check.proofs.Walks.{walk_on, walk_ends, least_in}
use Rattle.core_check.proofs.merge.lists_imply.Goals as goal

-- the first slot is one of the function
pub is_shown-requires : goal.is_shown-requires
is_shown-requires c = least_in c.args.context.function.now _ _ _ c.loop-slot.invariant.before_in c.loop-slot.invariant.after_in (sym c.least_slot.ensures ∙ c.in-Some.is)

-- the walk goes on
pub loop-slot-preserved : goal.loop-slot-preserved
loop-slot-preserved c = rw (c.rest_behind-place.ensures, c.rest_behind-place_after.ensures) (walk_on _ _ _ _ _ _ _ _ c.loop-slot.invariant (sym c.least_slot.ensures ∙ c.in-Some.is) (c.is_shown.ensures c.if-not-is_shown.false))

-- and ends
pub returns : goal.returns
returns c = λ sure. walk_ends _ _ _ _ _ _ _ c.know_rows.ensures (sym c.least_slot.ensures ∙ c.in_default.is) c.loop-slot.invariant
