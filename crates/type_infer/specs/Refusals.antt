-- Why a type isn't formed, as a reason why no arguments are inferred.
use Rattle.std.specs.Prelude.{◌≡◌}
use Rattle.dart_types.specs.declared.refusal.TypeRefusal.{TypeRefusal}
use Rattle.dart_types.specs.declared.refusal.TypeRefusal.TheVariants as of_type
use Rattle.type_infer.specs.declared.refusal.InferRefusal.{InferRefusal}
use Rattle.type_infer.specs.declared.refusal.InferRefusal.TheVariants.{TooLarge, Memory}

-- both say the same
abbrev pub same_refusal : TypeRefusal → InferRefusal → Type 0
same_refusal (of_type.TooLarge nodes) r = r ≡ TooLarge nodes
same_refusal of_type.Memory r = r ≡ Memory
