-- What a call answers that looks for the solution of a parameter.
use Rattle.std.specs.Prelude.{List, [], ◌∷◌, Option, None, Some, Result, Ok, Err}
use Rattle.dart_types.specs.Ty.{Ty}
use Rattle.dart_types.specs.Formed.{Forms}
use Rattle.dart_types.specs.Tables.{Table}
use Rattle.dart_types.specs.declared.ids.VarId.{VarId}
use Rattle.dart_types.specs.declared.refusal.TypeRefusal.{TypeRefusal}
use Rattle.dart_types.specs.declared.refusal.TypeRefusal.TheVariants.{TooLarge, Memory}
use Rattle.type_bounds.specs.Bounds.{Upper, Lower}
use Rattle.type_infer.specs.FormsSome.{FormsSome}
use Rattle.type_infer.specs.Solutions.{Folded, Solution, IsFree}
use Rattle.type_infer.specs.declared.constraints.Side.{Side}
use Rattle.type_infer.specs.declared.constraints.Side.TheVariants.{AtLeast, AtMost}
use Rattle.type_infer.specs.declared.constraints.Constraint.{Constraint}

-- the bound of two types on one side of a parameter: the upper one of those that it is at least, the lower one of those that it is at most
abbrev pub bound_on : Side → Table → Ty → Ty → Ty → Type 0
bound_on AtLeast table = Upper table
bound_on AtMost table = Lower table

-- the bound of a type and those of a list is formed, or a type on the way is too large; only want of memory is free
abbrev pub FoldsOn : (Ty → Ty → Ty → Type 0) → Ty → List Ty → Result (Option Ty) TypeRefusal → Type 0
FoldsOn bound t ss (Ok None) = ⊥
FoldsOn bound t ss (Ok (Some u)) = Folded bound t ss (Ok u)
FoldsOn bound t ss (Err (TooLarge nodes)) = Folded bound t ss (Err nodes)
FoldsOn bound t ss (Err Memory) = Unit {0}

-- likewise the bound of the types of a list: there is none of no types
abbrev pub Folds : (Ty → Ty → Ty → Type 0) → List Ty → Result (Option Ty) TypeRefusal → Type 0
Folds bound [] (Ok None) = Unit {0}
Folds bound [] (Ok (Some u)) = ⊥
Folds bound [] (Err (TooLarge nodes)) = ⊥
Folds bound [] (Err Memory) = Unit {0}
Folds bound (t ∷ ts) answer = FoldsOn bound t ts answer

-- the bound so far with one more type: that type where there is none
abbrev pub FormsWith : (Ty → Ty → Ty → Type 0) → Option Ty → Ty → Result Ty TypeRefusal → Type 0
FormsWith bound None t result = Forms result t
FormsWith bound (Some s) t result = FormsSome (bound s t) result

-- the solution of a parameter is formed, or a type on the way is too large, or nothing constrains the parameter; only want of memory is free
abbrev pub Solves : Table → List Constraint → VarId → Result (Option Ty) TypeRefusal → Type 0
Solves table cs x (Ok None) = IsFree cs x
Solves table cs x (Ok (Some t)) = Solution table cs x (Ok t)
Solves table cs x (Err (TooLarge nodes)) = Solution table cs x (Err nodes)
Solves table cs x (Err Memory) = Unit {0}
