-- Lists with commas between, of which each comma is read before what stands behind it.
use Rattle.std.proofs.Common.{◌≡◌, ℕ, ◌-◌, ◌<◌, ◌++◌, List, [], ◌∷◌, Option, Some, None, refl}
use Rattle.readings.specs.Readings.{Reading}
use Rattle.readings.specs.Descent.{Descent, take_at_most, ◌▸◌}
use Rattle.dart_tokens.specs.declared.grouped_token.GroupedToken.{GroupedToken as Token}
use Rattle.parse_leaves.specs.Loops.{continued, list_goes, list_stop}

-- another one behind a comma
pub comma_goes : {A : Type 0} (all : Option (Reading Token (List A))) (n m : ℕ) (comma : Descent Token Token) (p : Descent Token A) (done new : List A) (ts us vs : List Token) (k : Token) (x : A) → all ≡ continued done (take_at_most n (comma ▸ p) ts) → 0 < n →
    comma ts ≡ Some (k, us) → p us ≡ Some (x, vs) → new ≡ done ++ x ∷ [] → m ≡ n - 1 → all ≡ continued new (take_at_most m (comma ▸ p) vs)
comma_goes all n m comma p done new ts us vs k x so some e d made less =
    list_goes all n m (comma ▸ p) done new ts vs k x so some (rw (e, d) refl) made less

-- nothing behind the comma
pub comma_stop : {A : Type 0} (all : Option (Reading Token (List A))) (n : ℕ) (comma : Descent Token Token) (p : Descent Token A) (done : List A) (ts us : List Token) (k : Token) → all ≡ continued done (take_at_most n (comma ▸ p) ts) →
    comma ts ≡ Some (k, us) → p us ≡ None → all ≡ Some (done, ts)
comma_stop all n comma p done ts us k so e d = list_stop all n (comma ▸ p) done ts so (rw (e, d) refl)
