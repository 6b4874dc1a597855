-- Where the file of a path stands among files in the order of their paths.
use Rattle.std.specs.Prelude.{◌≡◌, ◌<◌, ◌≤◌, ℕ, List, length, slice_index_or}
use Rattle.std.specs.declared.cmp.Ordering.TheVariants.{Less, Greater}
use Rattle.load_files.specs.Tables.{Table, path_cmp}
use Rattle.load_files.specs.declared.contents.FileContents.{FileContents}

-- the path stands at place i
pub record StandsAt (table : Table) (path : List ℕ) (i : ℕ) : Type 0 where
  pub in_range : i < length table
  pub is_it : (d : List ℕ × FileContents) → (slice_index_or table i d).0 ≡ path

-- the path isn't there, and would stand at place i: smaller paths before it, greater ones from it on
pub record WouldStandAt (table : Table) (path : List ℕ) (i : ℕ) : Type 0 where
  pub in_range : i ≤ length table
  pub smaller_before : (j : ℕ) (d : List ℕ × FileContents) → j < i → path_cmp (slice_index_or table j d).0 path ≡ Less
  pub greater_after : (j : ℕ) (d : List ℕ × FileContents) → i ≤ j → j < length table → path_cmp (slice_index_or table j d).0 path ≡ Greater
