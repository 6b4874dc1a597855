-- Where a name stands among names.
use Rattle.std.specs.Prelude.{◌≡◌, ◌≢◌, ◌<◌, ◌≤◌, ℕ, List, length, slice_index_or}

-- the name stands at a place, and at no place before it from one on
pub record StandsFrom (names : List (List ℕ)) (from : ℕ) (name : List ℕ) (at : ℕ) : Type 0 where
  pub from_there : from ≤ at
  pub in_range : at < length names
  pub is_it : (d : List ℕ) → slice_index_or names at d ≡ name
  pub not_before : (j : ℕ) (d : List ℕ) → from ≤ j → j < at → slice_index_or names j d ≢ name

-- the name stands at no place from one on
pub record IsNotFrom (names : List (List ℕ)) (from : ℕ) (name : List ℕ) : Type 0 where
  pub nowhere : (j : ℕ) (d : List ℕ) → from ≤ j → j < length names → slice_index_or names j d ≢ name
