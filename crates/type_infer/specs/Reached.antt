-- The first parameter of a call that has no argument, and why it has none.
use Rattle.std.specs.Prelude.{◌≡◌, ◌≤◌, List, [], ◌∷◌, ◌++◌, Ok}
use Rattle.std.specs.List.{zip}
use Rattle.dart_types.specs.Ty.{Ty, nullable}
use Rattle.dart_types.specs.Heads.{object}
use Rattle.dart_types.specs.Sizes.{size_of}
use Rattle.dart_types.specs.Sub.{Sub}
use Rattle.dart_types.specs.Tables.{Table}
use Rattle.dart_types.specs.declared.ids.VarId.{VarId}
use Rattle.dart_types.specs.declared.refusal.TheConstants.{NODE_LIMIT}
use Rattle.type_infer.specs.Promotions.{unpromoted}
use Rattle.type_infer.specs.Pairs.{Pair}
use Rattle.type_infer.specs.Solutions.{Solution, IsFree}
use Rattle.type_infer.specs.Inference.{Gathered, Arguments, bound_with, declared_bound}
use Rattle.type_infer.specs.declared.constraints.Constraint.{Constraint}

-- the call sets these constraints, and by them each parameter before this one has an argument
pub record IsReached (table : Table) (params : List VarId) (pairs : List Pair) (x : VarId) : Type 0 where
  pub constraints : List Constraint
  pub gathered : Gathered table params pairs (Ok constraints)
  pub before : List VarId
  pub after : List VarId
  pub split : params ≡ before ++ x ∷ after
  pub given : List Ty
  pub arguments : Arguments table constraints [] before (Ok given)

-- its bound, with these arguments put in
abbrev pub bound_there : {table : Table} {params : List VarId} {pairs : List Pair} {x : VarId} → IsReached table params pairs x → Ty
bound_there {table = table} {x = x} r = bound_with table (zip r.before r.given) x

-- it has a solution, which isn't within its bound
pub record HasNoSolution (table : Table) (params : List VarId) (pairs : List Pair) (x : VarId) : Type 0 where
  pub reached : IsReached table params pairs x
  pub solution : Ty
  pub solves : Solution table reached.constraints x (Ok solution)
  pub within_limit : size_of (bound_there reached) ≤ NODE_LIMIT
  pub outside : Sub table (unpromoted solution) (bound_there reached) → ⊥

-- nothing constrains it, and it has no bound but `Object?`
pub record IsUnconstrained (table : Table) (params : List VarId) (pairs : List Pair) (x : VarId) : Type 0 where
  pub reached : IsReached table params pairs x
  pub free : IsFree reached.constraints x
  pub no_bound : declared_bound table x ≡ nullable object
