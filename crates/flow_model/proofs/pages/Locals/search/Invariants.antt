use Rattle.std.proofs.Common.{◌≤◌, ◌<◌, ◌-◌, ℕ, length, get_or}
use Rattle.flow_model.specs.declared.locals.Facts.{Facts}
use Rattle.flow_model.proofs.pages.Locals.search.Given as goal

-- the locals before `low` have smaller numbers, those from `high` on greater ones
abbrev pub invariant-loop-low : goal.invariant-loop-low
invariant-loop-low l =
    (l.low ≤ l.high)
    × (l.high ≤ length l.self)
    × ((j : ℕ) (d : Facts) → j < l.low → (get_or l.self j d).var.0 < l.var.0)
    × ((j : ℕ) (d : Facts) → l.high ≤ j → j < length l.self → l.var.0 < (get_or l.self j d).var.0)

abbrev pub decreases-loop-low : goal.decreases-loop-low
decreases-loop-low l = l.high - l.low
