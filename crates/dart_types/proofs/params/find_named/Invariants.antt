use Rattle.std.proofs.Common.{◌<◌, ◌≤◌, ℕ, List, slice_index_or}
use Rattle.std.specs.Prelude.{◌≢◌}
use Rattle.dart_types.specs.Named.{names_of}
use Rattle.dart_types.proofs.params.find_named.Given as goal

-- the parameters that were passed have other names
abbrev pub invariant-loop-at : goal.invariant-loop-at
invariant-loop-at l = (j : ℕ) (d : List ℕ) → l.from ≤ j → j < l.at → slice_index_or (names_of l.named) j d ≢ l.name
