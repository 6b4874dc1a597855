-- Errors that are handed on.
use Rattle.std.proofs.Common.{◌≡◌, Result, Ok, Err, sym, subst}
use Rattle.std.specs.Result.{IsErrAnd}
use Rattle.dart_types.specs.declared.refusal.TypeRefusal.{TypeRefusal}
use Rattle.type_infer.specs.Refusals.{same_refusal}
use Rattle.type_infer.specs.declared.refusal.InferRefusal.{InferRefusal}

-- as it is
pub handed_on : {T E : Type 0} (So : Result T E → Type 0) (r : Result T E) (e : E) → IsErrAnd r (λ d. d ≡ e) → So (Err e) → So r
handed_on So (Ok t) e h so = absurd h
handed_on {E = E} So (Err d) e h so = subst (λ (f : E). So (Err f)) (sym h) so

-- as a reason why no arguments are inferred
pub handed_over : {T : Type 0} (So : Result T InferRefusal → Type 0) (r : Result T InferRefusal) (e : TypeRefusal) → IsErrAnd r (λ d. same_refusal e d) → ((d : InferRefusal) → same_refusal e d → So (Err d)) → So r
handed_over So (Ok t) e h so = absurd h
handed_over So (Err d) e h so = so d h
