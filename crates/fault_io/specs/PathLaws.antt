-- Laws of the definitions on paths.
use Rattle.std.specs.Prelude.{◌≡◌, ℕ, true, List, [], ◌∷◌, ◌++◌, Some, refl}
use Rattle.std.proofs.Common.{ap, eqb, eq-eqb, inl, inr}
use Rattle.std.proofs.lemmas.Bool.{cases_Bool, eqb-true}
use Rattle.fault_io.specs.Paths.{after_front}

-- a front is followed by what was put after it
pub after_front-append : (front rest : List ℕ) → after_front front (front ++ rest) ≡ Some rest
after_front-append [] rest = refl
after_front-append (x ∷ front) rest = let same : eqb x x ≡ true = eq-eqb x x refl in rw same (after_front-append front rest)

-- a text is its front and what follows
pub after_front-is : (front text rest : List ℕ) → after_front front text ≡ Some rest → text ≡ front ++ rest
after_front-is [] text rest e = cc
after_front-is (x ∷ front) [] rest e = cc
after_front-is (x ∷ front) (y ∷ text) rest e =
    elim (cases_Bool (eqb x y)) [
      | inl t ↦ (let same : x ≡ y = eqb-true x y t in
          let more = rw t at e in
          rw same (ap (λ ys. y ∷ ys) (after_front-is front text rest more)))
      | inr f ↦ (let none = rw f at e in cc)
    ]
