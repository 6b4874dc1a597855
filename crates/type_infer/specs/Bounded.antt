-- What calls answer that hold an argument against the bound of its parameter, or take the bound.
use Rattle.std.specs.Prelude.{◌≡◌, ◌<◌, ◌≤◌, ◌≢◌, ℕ, List, Result, Ok, Err}
use Rattle.dart_types.specs.Ty.{Ty, nullable}
use Rattle.dart_types.specs.Heads.{object}
use Rattle.dart_types.specs.Sizes.{size_of, held}
use Rattle.dart_types.specs.Sub.{Sub}
use Rattle.dart_types.specs.Tables.{Table}
use Rattle.dart_types.specs.declared.ids.VarId.{VarId}
use Rattle.dart_types.specs.declared.refusal.TheConstants.{NODE_LIMIT}
use Rattle.type_infer.specs.Promotions.{unpromoted}
use Rattle.type_infer.specs.Inference.{bound_with, declared_bound}
use Rattle.type_infer.specs.declared.refusal.InferRefusal.{InferRefusal}
use Rattle.type_infer.specs.declared.refusal.InferRefusal.TheVariants.{NoSolution, Unconstrained, TooLarge, Memory}

-- the bound of a parameter has too many nodes, so many
abbrev pub IsOver : Table → List (VarId × Ty) → VarId → ℕ → Type 0
IsOver table before x nodes = (NODE_LIMIT < size_of (bound_with table before x)) × (nodes ≡ held (size_of (bound_with table before x)))

-- the solution of a parameter, with X in the place of each `X & U`, is within the bound, or it isn't
abbrev pub IsHeld : Table → List (VarId × Ty) → VarId → Ty → Result Ty InferRefusal → Type 0
IsHeld table before x solved (Ok t) = (t ≡ unpromoted solved) × (size_of (bound_with table before x) ≤ NODE_LIMIT) × Sub table (unpromoted solved) (bound_with table before x)
IsHeld table before x solved (Err (NoSolution y)) = (y ≡ x) × (size_of (bound_with table before x) ≤ NODE_LIMIT) × (Sub table (unpromoted solved) (bound_with table before x) → ⊥)
IsHeld table before x solved (Err (Unconstrained y)) = ⊥
IsHeld table before x solved (Err (TooLarge nodes)) = IsOver table before x nodes
IsHeld table before x solved (Err Memory) = Unit {0}

-- the bound of a parameter is its argument, unless it is `Object?`
abbrev pub IsByBound : Table → List (VarId × Ty) → VarId → Result Ty InferRefusal → Type 0
IsByBound table before x (Ok t) = (declared_bound table x ≢ nullable object) × (t ≡ bound_with table before x) × (size_of (bound_with table before x) ≤ NODE_LIMIT)
IsByBound table before x (Err (NoSolution y)) = ⊥
IsByBound table before x (Err (Unconstrained y)) = (y ≡ x) × (declared_bound table x ≡ nullable object)
IsByBound table before x (Err (TooLarge nodes)) = (declared_bound table x ≢ nullable object) × IsOver table before x nodes
IsByBound table before x (Err Memory) = Unit {0}
