-- What a call answers that looks for constraints.
use Rattle.std.specs.Prelude.{◌≡◌, Bool, true, false, List, ◌++◌, Result, Ok, Err}
use Rattle.dart_types.specs.declared.refusal.TypeRefusal.{TypeRefusal}
use Rattle.dart_types.specs.declared.refusal.TypeRefusal.TheVariants.{TooLarge, Memory}
use Rattle.dart_types.specs.Tables.{Table}
use Rattle.dart_types.specs.declared.ids.VarId.{VarId}
use Rattle.type_infer.specs.Pairs.{Pair}
use Rattle.type_infer.specs.Matching.{End, matched, mismatched, too_large, MatchAll}
use Rattle.type_infer.specs.declared.constraints.Constraint.{Constraint}

-- constraints that are so are put behind those before, and the types fit, or they don't; or a type is too large, and what is put there doesn't matter; only want of memory is free
abbrev pub Finds : (List Constraint → End → Type 0) → (before after : List Constraint) → Result Bool TypeRefusal → Type 0
Finds so before after (Ok true) = (cs : List Constraint) × so cs matched × (after ≡ before ++ cs)
Finds so before after (Ok false) = (cs : List Constraint) × so cs mismatched × (after ≡ before ++ cs)
Finds so before after (Err (TooLarge nodes)) = (cs : List Constraint) × so cs (too_large nodes)
Finds so before after (Err Memory) = Unit {0}

-- the constraints are those that the pairs set, in their order
abbrev pub FindsAll : Table → List VarId → List Pair → (before after : List Constraint) → Result Bool TypeRefusal → Type 0
FindsAll table params pairs before after result = Finds (MatchAll table params pairs) before after result
