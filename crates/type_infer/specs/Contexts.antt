-- The context in which an argument of a call is typed, where type arguments are left out.
use Rattle.std.specs.Prelude.{◌<◌, ◌≤◌, ℕ, List, [], ◌∷◌, Result, Ok, Err}
use Rattle.dart_types.specs.Ty.{Ty, variable}
use Rattle.dart_types.specs.Normal.{substituted}
use Rattle.dart_types.specs.Sizes.{size_of, held}
use Rattle.dart_types.specs.Tables.{Table}
use Rattle.dart_types.specs.declared.ids.VarId.{VarId}
use Rattle.dart_types.specs.declared.refusal.TheConstants.{NODE_LIMIT}
use Rattle.type_infer.specs.Promotions.{unpromoted}
use Rattle.type_infer.specs.Pairs.{Pair}
use Rattle.type_infer.specs.Solutions.{Solution, IsFree}
use Rattle.type_infer.specs.Inference.{Gathered}
use Rattle.type_infer.specs.declared.constraints.Constraint.{Constraint}
use Rattle.type_infer.specs.declared.contexts.TheConstants.{OPEN_PARAMETER}

-- what stands for each parameter in a context: its solution, in which `X & U` is read as X, where it is constrained, else the mark of an open parameter; or the number of nodes of the first type on the way that has more than a type may have
pub data Known (table : Table) (cs : List Constraint) : List VarId → Result (List (VarId × Ty)) ℕ → Type 0 where
  none_left : Known table cs [] (Ok [])
  one_solved : {x : VarId} {xs : List VarId} {t : Ty} {pairs : List (VarId × Ty)} → Solution table cs x (Ok t) → Known table cs xs (Ok pairs) → Known table cs (x ∷ xs) (Ok ((x, unpromoted t) ∷ pairs))
  one_open : {x : VarId} {xs : List VarId} {pairs : List (VarId × Ty)} → IsFree cs x → Known table cs xs (Ok pairs) → Known table cs (x ∷ xs) (Ok ((x, variable OPEN_PARAMETER) ∷ pairs))
  large_here : {x : VarId} {xs : List VarId} {nodes : ℕ} → Solution table cs x (Err nodes) → Known table cs (x ∷ xs) (Err nodes)
  large_behind_solved : {x : VarId} {xs : List VarId} {t : Ty} {nodes : ℕ} → Solution table cs x (Ok t) → Known table cs xs (Err nodes) → Known table cs (x ∷ xs) (Err nodes)
  large_behind_open : {x : VarId} {xs : List VarId} {nodes : ℕ} → IsFree cs x → Known table cs xs (Err nodes) → Known table cs (x ∷ xs) (Err nodes)

-- the formal of an argument with what is known of the parameters put in, where this is matched before it
pub data ContextOf (table : Table) (params : List VarId) (pairs : List Pair) (formal : Ty) : Result Ty ℕ → Type 0 where
  formed : {cs : List Constraint} {known : List (VarId × Ty)} → Gathered table params pairs (Ok cs) → Known table cs params (Ok known) → size_of (substituted known formal) ≤ NODE_LIMIT → ContextOf table params pairs formal (Ok (substituted known formal))
  large_context : {cs : List Constraint} {known : List (VarId × Ty)} → Gathered table params pairs (Ok cs) → Known table cs params (Ok known) → NODE_LIMIT < size_of (substituted known formal) → ContextOf table params pairs formal (Err (held (size_of (substituted known formal))))
  large_solution : {cs : List Constraint} {nodes : ℕ} → Gathered table params pairs (Ok cs) → Known table cs params (Err nodes) → ContextOf table params pairs formal (Err nodes)
  large_match : {nodes : ℕ} → Gathered table params pairs (Err nodes) → ContextOf table params pairs formal (Err nodes)
