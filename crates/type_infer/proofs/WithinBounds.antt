-- Arguments that are inferred are within their bounds.
use Rattle.std.proofs.Common.{List, [], Ok}
use Rattle.dart_types.specs.Ty.{Ty}
use Rattle.dart_types.specs.Sub.{Sub, reflexivity}
use Rattle.dart_types.specs.Tables.{Table}
use Rattle.dart_types.specs.declared.ids.VarId.{VarId}
use Rattle.type_infer.specs.Pairs.{Pair}
use Rattle.type_infer.specs.Inference.{bound_with, Argument, solved, by_bound, Arguments, all_given, one_given, Inferred, by_constraints}
use Rattle.type_infer.specs.Within.{AreWithinBounds}
use Rattle.type_infer.specs.declared.constraints.Constraint.{Constraint}

module _ (table : Table) where
  -- a solution is held against the bound, and the bound is within itself
  one_within : {cs : List Constraint} {before : List (VarId × Ty)} {x : VarId} {t : Ty} → Argument table cs before x (Ok t) → Sub table t (bound_with table before x)
  one_within (solved so le below) = below
  one_within (by_bound free bounded le) = reflexivity

  all_within : {cs : List Constraint} {before : List (VarId × Ty)} {xs : List VarId} {ts : List Ty} → Arguments table cs before xs (Ok ts) → AreWithinBounds table before xs ts
  all_within all_given = tt
  all_within (one_given a rest) = (one_within a, all_within rest)

  pub inferred_within : {params : List VarId} {pairs : List Pair} {ts : List Ty} → Inferred table params pairs (Ok ts) → AreWithinBounds table [] params ts
  inferred_within (by_constraints g a) = all_within a
