-- Where a local stands among the locals in scope.
use Rattle.std.specs.Prelude.{◌≡◌, ◌<◌, ◌≤◌, ℕ, List, length, set, slice_index_or}
use Rattle.flow_model.specs.Flow.{FlowModel}
use Rattle.flow_model.specs.declared.locals.LocalId.{LocalId}
use Rattle.flow_model.specs.declared.locals.Facts.{Facts}

-- the local stands at place i
pub record StandsAt (locals : List Facts) (var : LocalId) (i : ℕ) : Type 0 where
  pub in_range : i < length locals
  pub is_it : (d : Facts) → (slice_index_or locals i d).var.0 ≡ var.0

-- the local isn't in scope, and would stand at place i: smaller numbers before it, greater ones from it on
pub record WouldStandAt (locals : List Facts) (var : LocalId) (i : ℕ) : Type 0 where
  pub in_range : i ≤ length locals
  pub smaller_before : (j : ℕ) (d : Facts) → j < i → (slice_index_or locals j d).var.0 < var.0
  pub greater_after : (j : ℕ) (d : Facts) → i ≤ j → j < length locals → var.0 < (slice_index_or locals j d).var.0

-- the model with other facts of the local at a place
abbrev pub with_facts : FlowModel → ℕ → Facts → FlowModel
with_facts m at l = record { reachable = m.reachable; locals = set m.locals at l }
