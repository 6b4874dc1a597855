-- The type arguments that a call leaves out.
use Rattle.std.specs.Prelude.{◌≡◌, ◌<◌, ◌≤◌, ◌≢◌, ℕ, List, [], ◌∷◌, ◌++◌, Option, None, Some, unwrap_or, Result, Ok, Err}
use Rattle.dart_types.specs.Ty.{Ty, nullable, types_of}
use Rattle.dart_types.specs.Heads.{object}
use Rattle.dart_types.specs.Normal.{substituted}
use Rattle.dart_types.specs.Sizes.{size_of, held}
use Rattle.dart_types.specs.Sub.{Sub}
use Rattle.dart_types.specs.Tables.{Table, bound_of}
use Rattle.dart_types.specs.declared.ids.VarId.{VarId}
use Rattle.dart_types.specs.declared.refusal.TheConstants.{NODE_LIMIT}
use Rattle.type_infer.specs.Promotions.{unpromoted}
use Rattle.type_infer.specs.Pairs.{Pair, pair, paired}
use Rattle.type_infer.specs.Matching.{End, matched, mismatched, too_large, Match}
use Rattle.type_infer.specs.Solutions.{Solution, IsFree}
use Rattle.type_infer.specs.declared.constraints.Constraint.{Constraint}
use Rattle.type_infer.specs.declared.constraints.Side.TheVariants.{AtLeast, AtMost}
use Rattle.type_infer.specs.declared.refusal.InferRefusal.{InferRefusal}
use Rattle.type_infer.specs.declared.refusal.InferRefusal.TheVariants.{NoSolution, Unconstrained, TooLarge}

-- the result of a call against its context, if it has one: it is to be a subtype
abbrev pub context_pair : Ty → Option Ty → List Pair
context_pair result None = []
context_pair result (Some context) = pair AtMost result context ∷ []

-- what is matched in a call with these arguments, in this order: the result, then each formal, which is to be a supertype of the type of its argument
abbrev pub pairs_of : Ty → Option Ty → (formals actuals : List Ty) → List Pair
pairs_of result context formals actuals = context_pair result context ++ paired AtLeast (types_of formals) (types_of actuals)

-- matching ended without a type that is too large
abbrev pub IsWithin : End → Type 0
IsWithin matched = Unit {0}
IsWithin mismatched = Unit {0}
IsWithin (too_large nodes) = ⊥

-- all constraints that the pairs set, whether they match or not; or the number of nodes of the first type on the way that has more than a type may have
pub data Gathered (table : Table) (params : List VarId) : List Pair → Result (List Constraint) ℕ → Type 0 where
  none_left : Gathered table params [] (Ok [])
  one_pair : {p : Pair} {ps : List Pair} {cs ds : List Constraint} {end : End} → Match table params p.side p.formal p.other cs end → IsWithin end → Gathered table params ps (Ok ds) → Gathered table params (p ∷ ps) (Ok (cs ++ ds))
  large_later : {p : Pair} {ps : List Pair} {cs : List Constraint} {end : End} {nodes : ℕ} → Match table params p.side p.formal p.other cs end → IsWithin end → Gathered table params ps (Err nodes) → Gathered table params (p ∷ ps) (Err nodes)
  large_here : {p : Pair} {ps : List Pair} {cs : List Constraint} {nodes : ℕ} → Match table params p.side p.formal p.other cs (too_large nodes) → Gathered table params (p ∷ ps) (Err nodes)

-- the bound of a parameter as it is declared: `Object?` without one
abbrev pub declared_bound : Table → VarId → Ty
declared_bound table x = unwrap_or (bound_of table x) (nullable object)

-- the bound of a parameter, with the arguments of those before it put in
abbrev pub bound_with : Table → List (VarId × Ty) → VarId → Ty
bound_with table before x = substituted before (declared_bound table x)

-- the argument for a parameter, where those before it have these
pub data Argument (table : Table) (cs : List Constraint) (before : List (VarId × Ty)) (x : VarId) : Result Ty InferRefusal → Type 0 where
  -- its solution, in which `X & U` is read as X, is within its bound
  solved : {t : Ty} → Solution table cs x (Ok t) → size_of (bound_with table before x) ≤ NODE_LIMIT → Sub table (unpromoted t) (bound_with table before x) → Argument table cs before x (Ok (unpromoted t))
  -- or it isn't
  outside : {t : Ty} → Solution table cs x (Ok t) → size_of (bound_with table before x) ≤ NODE_LIMIT → (Sub table (unpromoted t) (bound_with table before x) → ⊥) → Argument table cs before x (Err (NoSolution x))
  -- nothing constrains it: its bound, unless that is `Object?`
  by_bound : IsFree cs x → declared_bound table x ≢ nullable object → size_of (bound_with table before x) ≤ NODE_LIMIT → Argument table cs before x (Ok (bound_with table before x))
  no_bound : IsFree cs x → declared_bound table x ≡ nullable object → Argument table cs before x (Err (Unconstrained x))
  -- a type on the way has too many nodes
  large_solution : {nodes : ℕ} → Solution table cs x (Err nodes) → Argument table cs before x (Err (TooLarge nodes))
  large_beside : {t : Ty} → Solution table cs x (Ok t) → NODE_LIMIT < size_of (bound_with table before x) → Argument table cs before x (Err (TooLarge (held (size_of (bound_with table before x)))))
  large_bound : IsFree cs x → declared_bound table x ≢ nullable object → NODE_LIMIT < size_of (bound_with table before x) → Argument table cs before x (Err (TooLarge (held (size_of (bound_with table before x)))))

-- the arguments for the parameters that are left, where those before them have these; or the refusal of the first that has none
pub data Arguments (table : Table) (cs : List Constraint) : (before : List (VarId × Ty)) → List VarId → Result (List Ty) InferRefusal → Type 0 where
  all_given : {before : List (VarId × Ty)} → Arguments table cs before [] (Ok [])
  one_given : {before : List (VarId × Ty)} {x : VarId} {xs : List VarId} {t : Ty} {ts : List Ty} → Argument table cs before x (Ok t) → Arguments table cs (before ++ (x, t) ∷ []) xs (Ok ts) → Arguments table cs before (x ∷ xs) (Ok (t ∷ ts))
  refused_later : {before : List (VarId × Ty)} {x : VarId} {xs : List VarId} {t : Ty} {why : InferRefusal} → Argument table cs before x (Ok t) → Arguments table cs (before ++ (x, t) ∷ []) xs (Err why) → Arguments table cs before (x ∷ xs) (Err why)
  refused_here : {before : List (VarId × Ty)} {x : VarId} {xs : List VarId} {why : InferRefusal} → Argument table cs before x (Err why) → Arguments table cs before (x ∷ xs) (Err why)

-- the type arguments of a call by what is matched in it
pub data Inferred (table : Table) (params : List VarId) (pairs : List Pair) : Result (List Ty) InferRefusal → Type 0 where
  by_constraints : {cs : List Constraint} {answer : Result (List Ty) InferRefusal} → Gathered table params pairs (Ok cs) → Arguments table cs [] params answer → Inferred table params pairs answer
  large_match : {nodes : ℕ} → Gathered table params pairs (Err nodes) → Inferred table params pairs (Err (TooLarge nodes))
