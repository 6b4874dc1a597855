-- Refusals that are handed on.
use Rattle.std.proofs.Common.{◌≡◌, Result, Ok, Err, sym, subst}
use Rattle.std.specs.Result.{IsErrAnd}
use Rattle.dart_types.specs.declared.refusal.TypeRefusal.{TypeRefusal}

-- what holds of a refusal holds where it is handed on
pub at_refusal : {T : Type 0} (P : Result T TypeRefusal → Type 0) (r : Result T TypeRefusal) (refused : TypeRefusal) → IsErrAnd r (λ e. e ≡ refused) → P (Err refused) → P r
at_refusal P (Ok v) refused h p = absurd h
at_refusal P (Err e) refused h p = subst (λ (x : TypeRefusal). P (Err x)) (sym h) p
