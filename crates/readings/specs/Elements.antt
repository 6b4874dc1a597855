-- Elements with commas between them.
use Rattle.std.specs.Prelude.{◌≡◌, ◌≤◌, ◌++◌, ℕ, zero, suc, Bool, true, false, ◌||◌, List, [], ◌∷◌, Option, Some, None, length, refl}
use Rattle.std.proofs.Common.{◌∙◌, ap, sym, arith, append-nil, append_assoc}
use Rattle.readings.specs.Readings.{Reading, behind, made, Rule, Test, next, either, token, ◌▹◌, first_behind, at_most_elements, elements, whole, inside}
use Rattle.readings.specs.Descent.{Descent, bind, or_else, take_token, ◌▸◌, take_turn, take_maybe, take_at_most_elements, take_elements, take_inside, complete}
use Rattle.readings.specs.Leading.{Apart, Parses, Sole}
use Rattle.readings.specs.Longest.{longest_is, whole_is}
use Rattle.readings.specs.Combinators.{parses_token, parses_turn}
use Rattle.readings.specs.Falls.{Falls}
use Rattle.readings.specs.Groups.{sole_inside_of}
use Rattle.readings.specs.Repetition.{Offers, IsFound, found_or, offers_or, offers_maybe, parses_last, offers_given, offers_within}

-- a comma, and what is total behind it
comma_offered : {T A : Type 0} {u v : Test T} {a : A} {r : Rule T A} {h : Descent T A} (comma : T → Bool) → Offers u v a r h → Parses u (next comma) (token comma ▹ r) (take_token comma ▸ h)
comma_offered {u = u} {r = r} {h = h} comma m = record {
  leads = (parses_last (parses_token comma) m (λ ts e. absurd (cc))).leads;
  starts = (parses_last (parses_token comma) m (λ ts e. absurd (cc))).starts;
  shrinks = (parses_last (parses_token comma) m (λ ts e. absurd (cc))).shrinks;
}

within_three : (s f c : Bool) → ((s || (((s || (f || c))) || c)) || f) ≡ true → (s || (f || c)) ≡ true
within_three true f c e = refl
within_three false true c e = refl
within_three false false true e = refl
within_three false false false e = e

pub offers_at_most_elements : {T A : Type 0} {s f : Test T} {p : Rule T A} {g : Descent T A} (comma : T → Bool) (n : ℕ) → Parses s f p g → Apart s (next comma) →
    Offers (either s (either f (next comma))) f [] (at_most_elements n p (token comma)) (take_at_most_elements n g (take_token comma))
offers_at_most_elements {s = s} {f = f} comma zero a far = offers_given (either s (either f (next comma))) f []
offers_at_most_elements {s = s} {f = f} comma (suc n) a far =
    offers_within (either s (either f (next comma))) (λ ts e. within_three (s ts) (f ts) (next comma ts) e)
    (offers_or [] (parses_turn first_behind (parses_last a (offers_maybe (comma_offered comma (offers_at_most_elements comma n a far))) far)))

pub offers_elements : {T A : Type 0} {s f : Test T} {p : Rule T A} {g : Descent T A} (comma : T → Bool) → Parses s f p g → Apart s (next comma) →
    Offers (either s (either f (next comma))) f [] (elements p (token comma)) (take_elements g (take_token comma))
offers_elements comma a far = record {
  leads = λ ts. (offers_at_most_elements comma (length ts) a far).leads ts;
  found = λ ts. (offers_at_most_elements comma (length ts) a far).found ts;
  idle = λ ts e. (offers_at_most_elements comma (length ts) a far).idle ts e;
  keeps = λ ts. (offers_at_most_elements comma (length ts) a far).keeps ts;
}

-- what is read whole is what the descent finds, if it leaves no token
pub whole_offers : {T A : Type 0} {s f : Test T} {a : A} {p : Rule T A} {g : Descent T A} → Offers s f a p g → (ts : List T) → whole (p ts) ≡ complete (g ts)
whole_offers {s = s} {p = p} {g = g} m ts = whole_is (p ts) ∙ ap complete (longest_is s (p ts) (g ts) (m.leads ts))

-- a group of what is total has no other reading
pub sole_inside_offered : {T A : Type 0} {s f : Test T} {a : A} {p : Rule T A} {g : Descent T A} (opens : T → Bool) (width past : T → ℕ) → Offers s f a p g → Sole (next opens) (inside opens width past p) (take_inside opens width past g)
sole_inside_offered {p = p} {g = g} opens width past m = sole_inside_of opens width past p g (whole_offers m)

-- a group of elements has no other reading
pub sole_listed : {T A : Type 0} {s f : Test T} {p : Rule T A} {g : Descent T A} (opens : T → Bool) (width past : T → ℕ) (comma : T → Bool) → Parses s f p g → Apart s (next comma) →
    Sole (next opens) (inside opens width past (elements p (token comma))) (take_inside opens width past (take_elements g (take_token comma)))
sole_listed {p = p} {g = g} opens width past comma a far = sole_inside_of opens width past (elements p (token comma)) (take_elements g (take_token comma)) (whole_offers (offers_elements comma a far))

-- What a loop keeps that reads elements.

-- elements done before those of a reading
abbrev pub preceded : {T A : Type 0} → List A → Option (Reading T (List A)) → Option (Reading T (List A))
preceded done None = None
preceded done (Some x) = Some (done ++ x.0, x.1)

pub begun : {T A : Type 0} (o : Option (Reading T (List A))) → o ≡ preceded [] o
begun None = refl
begun (Some x) = refl

preceded_twice : {T A : Type 0} (a b : List A) (o : Option (Reading T (List A))) → preceded a (preceded b o) ≡ preceded (a ++ b) o
preceded_twice a b None = refl
preceded_twice {T = T} {A = A} a b (Some x) = ap (λ (xs : List A). Some (xs, x.1)) (sym (append_assoc a b x.0))

-- no element
none_at : {T A B : Type 0} (n : ℕ) (g : Descent T A) (comma : Descent T B) (ts : List T) → g ts ≡ None → take_at_most_elements n g comma ts ≡ Some ([], ts)
none_at zero g comma ts e = refl
none_at (suc n) g comma ts e = rw e refl

-- an element without a comma behind it
last_at : {T A B : Type 0} (n : ℕ) (g : Descent T A) (comma : Descent T B) (ts : List T) (x : Reading T A) → g ts ≡ Some x → comma x.1 ≡ None → take_at_most_elements (suc n) g comma ts ≡ Some (x.0 ∷ [], x.1)
last_at n g comma ts x e d = rw (e, d) refl

-- an element, a comma and what stands behind it
more_at : {T A B : Type 0} (x : A) (y : Reading T B) (ts us : List T) (o : Option (Reading T (List A))) → IsFound o →
    or_else (bind (bind (or_else (bind (bind o (λ z. Some (behind y.0 z))) (λ w. Some (made (λ read a. Some a) us w))) (Some (None, us))) (λ w. Some (behind x w))) (λ v. Some (made (λ read a. first_behind a) ts v))) (Some ([], ts))
    ≡ preceded (x ∷ []) o
more_at x y ts us None found = elim found [ ]
more_at x y ts us (Some z) found = refl

found_at_most : {T A B : Type 0} (n : ℕ) (g : Descent T A) (comma : Descent T B) (ts : List T) → IsFound (take_at_most_elements n g comma ts)
found_at_most zero g comma ts = tt
found_at_most (suc n) g comma ts = found_or (take_turn first_behind (g ▸ take_maybe (comma ▸ take_at_most_elements n g comma)) ts) ([], ts)

goes_at : {T A B : Type 0} (n : ℕ) (g : Descent T A) (comma : Descent T B) (ts : List T) (x : Reading T A) (y : Reading T B) → g ts ≡ Some x → comma x.1 ≡ Some y →
    take_at_most_elements (suc n) g comma ts ≡ preceded (x.0 ∷ []) (take_at_most_elements n g comma y.1)
goes_at n g comma ts x y e d = rw (e, d) (more_at x.0 y ts x.1 (take_at_most_elements n g comma y.1) (found_at_most n g comma y.1))

enough_comma : {T A B : Type 0} (n m : ℕ) (g : Descent T A) (comma : Descent T B) → Falls comma → (ts : List T) (x : Reading T A) → g ts ≡ Some x → length x.1 ≤ n → length x.1 ≤ m →
    ((us : List T) → length us ≤ n → length us ≤ m → take_at_most_elements n g comma us ≡ take_at_most_elements m g comma us) → (o : Option (Reading T B)) → comma x.1 ≡ o → take_at_most_elements (suc n) g comma ts ≡ take_at_most_elements (suc m) g comma ts
enough_comma n m g comma falls ts x e h k same None d = last_at n g comma ts x e d ∙ sym (last_at m g comma ts x e d)
enough_comma {T = T} {A = A} n m g comma falls ts x e h k same (Some y) d =
    goes_at n g comma ts x y e d ∙ ap (preceded (x.0 ∷ [])) (same y.1 (omega (arith, falls x.1 y d, h)) (omega (arith, falls x.1 y d, k))) ∙ sym (goes_at m g comma ts x y e d)

enough_element : {T A B : Type 0} (n m : ℕ) (g : Descent T A) (comma : Descent T B) → Falls g → Falls comma → (ts : List T) → length ts ≤ suc n → length ts ≤ suc m →
    ((us : List T) → length us ≤ n → length us ≤ m → take_at_most_elements n g comma us ≡ take_at_most_elements m g comma us) → (o : Option (Reading T A)) → g ts ≡ o → take_at_most_elements (suc n) g comma ts ≡ take_at_most_elements (suc m) g comma ts
enough_element n m g comma falls also ts h k same None e = none_at (suc n) g comma ts e ∙ sym (none_at (suc m) g comma ts e)
enough_element n m g comma falls also ts h k same (Some x) e = enough_comma n m g comma also ts x e (omega (arith, falls ts x e, h)) (omega (arith, falls ts x e, k)) same (comma x.1) refl

none_left : {T A : Type 0} (g : Descent T A) → Falls g → (ts : List T) → length ts ≤ 0 → (o : Option (Reading T A)) → g ts ≡ o → g ts ≡ None
none_left g falls ts h None e = e
none_left g falls ts h (Some x) e = absurd (omega (arith, falls ts x e, h))

enough : {T A B : Type 0} (n m : ℕ) (g : Descent T A) (comma : Descent T B) → Falls g → Falls comma → (ts : List T) → length ts ≤ n → length ts ≤ m → take_at_most_elements n g comma ts ≡ take_at_most_elements m g comma ts
enough zero m g comma falls also ts h k = sym (none_at m g comma ts (none_left g falls ts h (g ts) refl))
enough (suc n) zero g comma falls also ts h k = none_at (suc n) g comma ts (none_left g falls ts k (g ts) refl)
enough (suc n) (suc m) g comma falls also ts h k = enough_element n m g comma falls also ts h k (λ us a b. enough n m g comma falls also us a b) (g ts) refl

-- no further element is found
pub loop_stops : {T A B : Type 0} (g : Descent T A) (comma : Descent T B) (all : Option (Reading T (List A))) (done : List A) (ts : List T) → all ≡ preceded done (take_elements g comma ts) → g ts ≡ None → all ≡ Some (done, ts)
loop_stops {T = T} {A = A} g comma all done ts so_far e = so_far ∙ ap (preceded done) (none_at (length ts) g comma ts e) ∙ ap (λ (xs : List A). Some (xs, ts)) (append-nil done)

pub loop_last : {T A B : Type 0} (g : Descent T A) (comma : Descent T B) → Falls g → Falls comma → (all : Option (Reading T (List A))) (done : List A) (ts : List T) (x : Reading T A) → all ≡ preceded done (take_elements g comma ts) →
    g ts ≡ Some x → comma x.1 ≡ None → all ≡ Some (done ++ x.0 ∷ [], x.1)
loop_last g comma falls also all done ts x so_far e d =
    so_far ∙ ap (preceded done) (enough (length ts) (suc (length ts)) g comma falls also ts (omega arith) (omega arith) ∙ last_at (length ts) g comma ts x e d)

pub loop_goes_on : {T A B : Type 0} (g : Descent T A) (comma : Descent T B) → Falls g → Falls comma → (all : Option (Reading T (List A))) (done : List A) (ts : List T) (x : Reading T A) (y : Reading T B) → all ≡ preceded done (take_elements g comma ts) →
    g ts ≡ Some x → comma x.1 ≡ Some y → all ≡ preceded (done ++ x.0 ∷ []) (take_elements g comma y.1)
loop_goes_on g comma falls also all done ts x y so_far e d =
    so_far
    ∙ ap (preceded done)
    (enough (length ts) (suc (length ts)) g comma falls also ts (omega arith) (omega arith) ∙ goes_at (length ts) g comma ts x y e d
    ∙ ap (preceded (x.0 ∷ [])) (enough (length ts) (length y.1) g comma falls also y.1 (omega (arith, falls ts x e, also x.1 y d)) (omega arith)))
    ∙ preceded_twice done (x.0 ∷ []) (take_elements g comma y.1)
