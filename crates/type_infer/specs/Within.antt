-- Arguments that are within the bounds of their parameters.
use Rattle.std.specs.Prelude.{List, [], ◌∷◌, ◌++◌}
use Rattle.dart_types.specs.Ty.{Ty}
use Rattle.dart_types.specs.Sub.{Sub}
use Rattle.dart_types.specs.Tables.{Table}
use Rattle.dart_types.specs.declared.ids.VarId.{VarId}
use Rattle.type_infer.specs.Inference.{bound_with}

-- there is one argument for each parameter that is left, and each is a subtype of its parameter's bound, in which the arguments before it are put in
abbrev pub AreWithinBounds : Table → (before : List (VarId × Ty)) → List VarId → List Ty → Type 0
AreWithinBounds table before [] [] = Unit {0}
AreWithinBounds table before [] (t ∷ ts) = ⊥
AreWithinBounds table before (x ∷ xs) [] = ⊥
AreWithinBounds table before (x ∷ xs) (t ∷ ts) = Sub table t (bound_with table before x) × AreWithinBounds table (before ++ (x, t) ∷ []) xs ts
