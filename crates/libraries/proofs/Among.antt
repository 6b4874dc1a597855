-- What is among others has a position.
use Rattle.std.proofs.Common.{◌≡◌, inl, inr, ℕ, suc, ◌+◌, Bool, true, false, List, [], ◌∷◌, length, cond, Some, None, is_some, position, nat_lt, refl, sym, ◌∙◌, arith}
use Rattle.std.specs.List.{list_any, position_or_len}
use Rattle.std.proofs.lemmas.Bool.{cases_Bool, cases_lt, le-ltb, lt-ltb}

shifted : (a b : ℕ) → nat_lt a b ≡ nat_lt (1 + a) (suc b)
shifted a b = elim (cases_lt a b) [
  | inl less ↦ lt-ltb a b less ∙ sym (lt-ltb (1 + a) (suc b) (omega (arith, less)))
  | inr past ↦ le-ltb a b past ∙ sym (le-ltb (1 + a) (suc b) (omega (arith, past)))
]

any_is : {X : Type 0} (test : X → Bool) (xs : List X) → list_any test xs ≡ nat_lt (position_or_len test xs) (length xs)
any_is test [] = refl
any_is test (x ∷ xs) = elim (cases_Bool (test x)) [
  | inl is ↦ rw is (sym (lt-ltb 0 (length (x ∷ xs)) (omega arith)))
  | inr isnt ↦ rw isnt (any_is test xs ∙ shifted (position_or_len test xs) (length xs))
]

some_of : (b : Bool) (n : ℕ) → is_some (cond b (Some n) None) ≡ b
some_of true n = refl
some_of false n = refl

-- it has one just if it is among them
pub is_some_position : {X : Type 0} (test : X → Bool) (xs : List X) → is_some (position test xs) ≡ list_any test xs
is_some_position test xs = some_of (nat_lt (position_or_len test xs) (length xs)) (position_or_len test xs) ∙ sym (any_is test xs)
