use Rattle.std.proofs.Common.{◌≡◌}
use Rattle.class_depths.specs.Marked.{mark_at}
use Rattle.class_depths.specs.Climbing.{Climbing, effort}
use Rattle.class_depths.specs.declared.marks.Mark.TheVariants.{Unseen}
use Rattle.class_depths.proofs.settling.depth_at.Given as goal

-- the way up, on which the class was come to
abbrev pub invariant-loop-step : goal.invariant-loop-step
invariant-loop-step l = Climbing l.below.table l.declared l.marks.items l.path.items × (mark_at l.marks.items l.root ≡ Unseen → ⊥)

abbrev pub decreases-loop-step : goal.decreases-loop-step
decreases-loop-step l = effort l.marks.items l.path.items
