-- What constraints make of a type parameter.
use Rattle.std.specs.Prelude.{◌≡◌, ◌<◌, ◌≤◌, ℕ, List, [], ◌∷◌, Result, Ok, Err}
use Rattle.dart_types.specs.Ty.{Ty}
use Rattle.dart_types.specs.Sizes.{size_of, held}
use Rattle.dart_types.specs.Tables.{Table}
use Rattle.dart_types.specs.declared.ids.VarId.{VarId}
use Rattle.dart_types.specs.declared.refusal.TheConstants.{NODE_LIMIT}
use Rattle.type_bounds.specs.Bounds.{Upper, Lower}
use Rattle.type_infer.specs.Constraints.{types_on}
use Rattle.type_infer.specs.declared.constraints.Constraint.{Constraint}
use Rattle.type_infer.specs.declared.constraints.Side.TheVariants.{AtLeast, AtMost}

-- the bound of a type and those of a list, one after another; or the number of nodes of the first on the way that has more than a type may have
pub data Folded (bound : Ty → Ty → Ty → Type 0) : Ty → List Ty → Result Ty ℕ → Type 0 where
  no_other : {t : Ty} → size_of t ≤ NODE_LIMIT → Folded bound t [] (Ok t)
  one_other : {t s u : Ty} {ss : List Ty} {answer : Result Ty ℕ} → size_of t ≤ NODE_LIMIT → bound t s u → Folded bound u ss answer → Folded bound t (s ∷ ss) answer
  over_limit : {t : Ty} {ss : List Ty} → NODE_LIMIT < size_of t → Folded bound t ss (Err (held (size_of t)))

-- a parameter is the upper bound of the types that it is at least, else the lower bound of those that it is at most
pub data Solution (table : Table) (cs : List Constraint) (x : VarId) : Result Ty ℕ → Type 0 where
  by_upper : {t : Ty} {ts : List Ty} {answer : Result Ty ℕ} → types_on AtLeast x cs ≡ t ∷ ts → Folded (Upper table) t ts answer → Solution table cs x answer
  by_lower : {t : Ty} {ts : List Ty} {answer : Result Ty ℕ} → types_on AtLeast x cs ≡ [] → types_on AtMost x cs ≡ t ∷ ts → Folded (Lower table) t ts answer → Solution table cs x answer

-- nothing constrains the parameter
abbrev pub IsFree : List Constraint → VarId → Type 0
IsFree cs x = (types_on AtLeast x cs ≡ []) × (types_on AtMost x cs ≡ [])
