-- What calls answer that gather the constraints of pairs.
use Rattle.std.specs.Prelude.{◌≡◌, List, ◌++◌, Result, Ok, Err}
use Rattle.dart_types.specs.Tables.{Table}
use Rattle.dart_types.specs.declared.ids.VarId.{VarId}
use Rattle.dart_types.specs.declared.refusal.TypeRefusal.{TypeRefusal}
use Rattle.dart_types.specs.declared.refusal.TypeRefusal.TheVariants.{TooLarge, Memory}
use Rattle.type_infer.specs.Pairs.{Pair}
use Rattle.type_infer.specs.Inference.{Gathered}
use Rattle.type_infer.specs.declared.constraints.Constraint.{Constraint}

-- the constraints of the pairs aren't gathered: a type on the way is too large; only want of memory is free
abbrev pub EndsGathering : Table → List VarId → List Pair → TypeRefusal → Type 0
EndsGathering table params ps (TooLarge nodes) = Gathered table params ps (Err nodes)
EndsGathering table params ps Memory = Unit {0}

-- the constraints of the pairs are put behind those before
abbrev pub GathersInto : Table → List VarId → List Pair → (before after : List Constraint) → Result (Unit {0}) TypeRefusal → Type 0
GathersInto table params ps before after (Ok _) = (cs : List Constraint) × Gathered table params ps (Ok cs) × (after ≡ before ++ cs)
GathersInto table params ps before after (Err why) = EndsGathering table params ps why
