-- Where the text of a path stands among texts in the order of their paths.
use Rattle.std.specs.Prelude.{◌≡◌, ◌<◌, ◌≤◌, ℕ, List, length, slice_index_or}
use Rattle.std.specs.Cmp.Lexicographic.{slice_cmp}
use Rattle.std.specs.Ordering.{nat_cmp}
use Rattle.std.specs.declared.cmp.Ordering.TheVariants.{Less, Greater}
use Rattle.overlays.specs.Tables.{PathsAndTexts}

-- the path stands at place i
pub record StandsAt (table : PathsAndTexts) (path : List ℕ) (i : ℕ) : Type 0 where
  pub in_range : i < length table
  pub is_it : (d : List ℕ × List ℕ) → (slice_index_or table i d).0 ≡ path

-- the path isn't there, and would stand at place i: smaller paths before it, greater ones from it on
pub record WouldStandAt (table : PathsAndTexts) (path : List ℕ) (i : ℕ) : Type 0 where
  pub in_range : i ≤ length table
  pub smaller_before : (j : ℕ) (d : List ℕ × List ℕ) → j < i → slice_cmp nat_cmp (slice_index_or table j d).0 path ≡ Less
  pub greater_after : (j : ℕ) (d : List ℕ × List ℕ) → i ≤ j → j < length table → slice_cmp nat_cmp (slice_index_or table j d).0 path ≡ Greater
