-- How far matching goes down: as far as the test whether one type is a subtype of the other.
use Rattle.std.specs.Prelude.{ℕ, ◌+◌, max, List, [], ◌∷◌}
use Rattle.dart_types.specs.Ty.{Ty}
use Rattle.dart_types.specs.Tables.{Table}
use Rattle.dart_types.specs.Measure.{measure}
use Rattle.type_infer.specs.Pairs.{Pair}
use Rattle.type_infer.specs.declared.constraints.Side.{Side}
use Rattle.type_infer.specs.declared.constraints.Side.TheVariants.{AtLeast, AtMost}

-- of a formal and another type
abbrev pub side_measure : Table → Side → Ty → Ty → ℕ
side_measure table AtLeast t s = measure table s t
side_measure table AtMost t s = measure table t s

-- one more than the most of pairs; 0 of none
abbrev pub pairs_measure : Table → List Pair → ℕ
pairs_measure table [] = 0
pairs_measure table (p ∷ ps) = max (side_measure table p.side p.formal p.other + 1) (pairs_measure table ps)
