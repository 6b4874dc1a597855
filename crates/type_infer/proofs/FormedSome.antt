-- A type that is so and is formed, or too large, is a type that is so.
use Rattle.std.proofs.Common.{◌≤◌, Result, Ok, Err, sym, subst}
use Rattle.dart_types.specs.Ty.{Ty}
use Rattle.dart_types.specs.Formed.{Forms}
use Rattle.dart_types.specs.Sizes.{size_of}
use Rattle.dart_types.specs.declared.refusal.TypeRefusal.{TypeRefusal}
use Rattle.dart_types.specs.declared.refusal.TypeRefusal.TheVariants.{TooLarge, Memory}
use Rattle.dart_types.specs.declared.refusal.TheConstants.{NODE_LIMIT}
use Rattle.type_infer.specs.FormsSome.{FormsSome}

pub forms_some : (so : Ty → Type 0) (t : Ty) → so t → (r : Result Ty TypeRefusal) → Forms r t → FormsSome so r
forms_some so t h (Ok formed) f = (subst so (sym f.0) h, subst (λ (u : Ty). size_of u ≤ NODE_LIMIT) (sym f.0) f.1)
forms_some so t h (Err (TooLarge nodes)) f = (t, h, (f.0, f.1))
forms_some so t h (Err Memory) f = tt
