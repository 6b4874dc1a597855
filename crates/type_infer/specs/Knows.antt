-- What a call answers that looks for what stands for the parameters in a context.
use Rattle.std.specs.Prelude.{◌≡◌, List, ◌⊎◌, Result, Ok, Err}
use Rattle.dart_types.specs.Ty.{Ty, variable}
use Rattle.dart_types.specs.Tables.{Table}
use Rattle.dart_types.specs.declared.ids.VarId.{VarId}
use Rattle.dart_types.specs.declared.refusal.TypeRefusal.{TypeRefusal}
use Rattle.dart_types.specs.declared.refusal.TypeRefusal.TheVariants.{TooLarge, Memory}
use Rattle.type_infer.specs.Promotions.{unpromoted}
use Rattle.type_infer.specs.Solutions.{Solution, IsFree}
use Rattle.type_infer.specs.Contexts.{Known}
use Rattle.type_infer.specs.declared.constraints.Constraint.{Constraint}
use Rattle.type_infer.specs.declared.contexts.TheConstants.{OPEN_PARAMETER}

-- a solution is too large, or a type on the way to it; only want of memory is free
abbrev pub EndsKnown : Table → List Constraint → List VarId → TypeRefusal → Type 0
EndsKnown table cs params (TooLarge nodes) = Known table cs params (Err nodes)
EndsKnown table cs params Memory = Unit {0}

-- the type that stands for a parameter in a context
abbrev pub KnowsOne : Table → List Constraint → VarId → Result Ty TypeRefusal → Type 0
KnowsOne table cs x (Ok t) = ((s : Ty) × Solution table cs x (Ok s) × (t ≡ unpromoted s)) ⊎ (IsFree cs x × (t ≡ variable OPEN_PARAMETER))
KnowsOne table cs x (Err (TooLarge nodes)) = Solution table cs x (Err nodes)
KnowsOne table cs x (Err Memory) = Unit {0}
