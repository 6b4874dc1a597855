-- Lists of items with errors among them.
use Rattle.std.specs.Prelude.{◌≡◌, ℕ, zero, suc, ◌<◌, ◌≤◌, ◌++◌, Bool, List, [], ◌∷◌, Option, Some, None, length, take, drop, refl}
use Rattle.std.proofs.Common.{sym, ◌∙◌, ap, arith, append-nil, append_assoc}
use Rattle.readings.specs.Readings.{Reading, Rule, Test, next, whole, item_or_error, items_at, items, longest, inside}
use Rattle.readings.specs.Descent.{Descent, complete, take_items_at, all_items, take_items, take_inside}
use Rattle.readings.specs.Leading.{Parses, Sole}
use Rattle.readings.specs.Longest.{parses_longest}
use Rattle.readings.specs.Falls.{Falls}
use Rattle.readings.specs.Groups.{dropped, sole_inside_of}

-- The items that a descent finds are those of the rule.

same_at : {T A : Type 0} (segment : List T → ℕ) (error : List T → A) (f g : List T → List A) → ((ts : List T) → f ts ≡ g ts) → (ts : List T) (o c : Option (Reading T A)) → o ≡ c → item_or_error f segment error ts o ≡ item_or_error g segment error ts c
same_at {T = T} {A = A} segment error f g same ts o None e =
    ap (item_or_error f segment error ts) e ∙ ap (λ (xs : List A). error (take (suc (segment ts)) ts) ∷ xs) (same (drop (suc (segment ts)) ts))
same_at {T = T} {A = A} segment error f g same ts o (Some x) e = ap (item_or_error f segment error ts) e ∙ ap (λ (xs : List A). x.0 ∷ xs) (same x.1)

pub same_items : {T A : Type 0} {s f : Test T} {p : Rule T A} {g : Descent T A} (segment : List T → ℕ) (error : List T → A) → Parses s f p g → (n : ℕ) (ts : List T) → items_at n p segment error ts ≡ take_items_at n g segment error ts
same_items segment error a zero ts = refl
same_items segment error a (suc n) [] = refl
same_items {p = p} {g = g} segment error a (suc n) (t ∷ ts) =
    same_at segment error (items_at n p segment error) (take_items_at n g segment error) (λ us. same_items segment error a n us) (t ∷ ts) (longest (p (t ∷ ts))) (g (t ∷ ts)) (parses_longest a (t ∷ ts))

whole_items : {T A : Type 0} {s f : Test T} {p : Rule T A} {g : Descent T A} (segment : List T → ℕ) (error : List T → A) → Parses s f p g → (ts : List T) → whole (items p segment error ts) ≡ complete (take_items g segment error ts)
whole_items segment error a ts = ap (λ xs. Some xs) (same_items segment error a (length ts) ts)

-- a braced list of items has one reading, whatever stands in it
pub sole_braced : {T A : Type 0} {s f : Test T} {p : Rule T A} {g : Descent T A} (opens : T → Bool) (width past : T → ℕ) (segment : List T → ℕ) (error : List T → A) → Parses s f p g →
    Sole (next opens) (inside opens width past (items p segment error)) (take_inside opens width past (take_items g segment error))
sole_braced {p = p} {g = g} opens width past segment error a = sole_inside_of opens width past (items p segment error) (take_items g segment error) (whole_items segment error a)

-- What a loop keeps: the items done, then those of the rest, are all.

dropped_fewer : {T : Type 0} (n : ℕ) (t : T) (ts : List T) → length (drop (suc n) (t ∷ ts)) ≤ length ts
dropped_fewer n t ts = dropped n ts

enough_at : {T A : Type 0} (g : Descent T A) → Falls g → (segment : List T → ℕ) (error : List T → A) (f h : List T → List A) (t : T) (ts : List T) → ((us : List T) → length us ≤ length ts → f us ≡ h us) → (o : Option (Reading T A)) → g (t ∷ ts) ≡ o →
    item_or_error f segment error (t ∷ ts) o ≡ item_or_error h segment error (t ∷ ts) o
enough_at {T = T} {A = A} g falls segment error f h t ts same None e =
    ap (λ (xs : List A). error (take (suc (segment (t ∷ ts))) (t ∷ ts)) ∷ xs) (same (drop (suc (segment (t ∷ ts))) (t ∷ ts)) (dropped_fewer (segment (t ∷ ts)) t ts))
enough_at {T = T} {A = A} g falls segment error f h t ts same (Some x) e = ap (λ (xs : List A). x.0 ∷ xs) (same x.1 (omega (arith, falls (t ∷ ts) x e)))

-- any two bounds that are no less than the number of tokens are as good
enough : {T A : Type 0} (g : Descent T A) → Falls g → (segment : List T → ℕ) (error : List T → A) (n m : ℕ) (ts : List T) → length ts ≤ n → length ts ≤ m → take_items_at n g segment error ts ≡ take_items_at m g segment error ts
enough g falls segment error zero zero ts h k = refl
enough g falls segment error zero (suc m) [] h k = refl
enough g falls segment error zero (suc m) (t ∷ ts) h k = absurd (omega (arith, h))
enough g falls segment error (suc n) zero [] h k = refl
enough g falls segment error (suc n) zero (t ∷ ts) h k = absurd (omega (arith, k))
enough g falls segment error (suc n) (suc m) [] h k = refl
enough g falls segment error (suc n) (suc m) (t ∷ ts) h k =
    enough_at g falls segment error (take_items_at n g segment error) (take_items_at m g segment error) t ts
    (λ us l. enough g falls segment error n m us (omega (arith, l, h)) (omega (arith, l, k))) (g (t ∷ ts)) refl

-- where an item is found the items are that one and those of the rest
pub items_goes : {T A : Type 0} (g : Descent T A) → Falls g → (segment : List T → ℕ) (error : List T → A) (ts : List T) (x : Reading T A) → g ts ≡ Some x → all_items g segment error ts ≡ x.0 ∷ all_items g segment error x.1
items_goes g falls segment error [] x e = absurd (omega (arith, falls [] x e))
items_goes {T = T} {A = A} g falls segment error (t ∷ ts) x e =
    ap (item_or_error (take_items_at (length ts) g segment error) segment error (t ∷ ts)) e
    ∙ ap (λ (xs : List A). x.0 ∷ xs) (enough g falls segment error (length ts) (length x.1) x.1 (omega (arith, falls (t ∷ ts) x e)) (omega arith))

-- where none is found they are an error over the segment and those behind it
pub items_skips : {T A : Type 0} (g : Descent T A) → Falls g → (segment : List T → ℕ) (error : List T → A) (ts : List T) → 0 < length ts → g ts ≡ None →
    all_items g segment error ts ≡ error (take (suc (segment ts)) ts) ∷ all_items g segment error (drop (suc (segment ts)) ts)
items_skips g falls segment error [] h e = absurd (omega (arith, h))
items_skips {T = T} {A = A} g falls segment error (t ∷ ts) h e =
    ap (item_or_error (take_items_at (length ts) g segment error) segment error (t ∷ ts)) e
    ∙ ap (λ (xs : List A). error (take (suc (segment (t ∷ ts))) (t ∷ ts)) ∷ xs) (enough g falls segment error (length ts) (length (drop (suc (segment (t ∷ ts))) (t ∷ ts))) (drop (suc (segment (t ∷ ts))) (t ∷ ts)) (dropped_fewer (segment (t ∷ ts)) t ts) (omega arith))

-- each turn adds the item that was found
pub loop_goes : {T A : Type 0} (g : Descent T A) → Falls g → (segment : List T → ℕ) (error : List T → A) (all : List A) (done : List A) (ts : List T) (x : Reading T A) → all ≡ done ++ all_items g segment error ts → g ts ≡ Some x →
    all ≡ (done ++ x.0 ∷ []) ++ all_items g segment error x.1
loop_goes {T = T} {A = A} g falls segment error all done ts x so_far e =
    so_far ∙ ap (λ (xs : List A). done ++ xs) (items_goes g falls segment error ts x e) ∙ sym (append_assoc done (x.0 ∷ []) (all_items g segment error x.1))

-- or the error
pub loop_skips : {T A : Type 0} (g : Descent T A) → Falls g → (segment : List T → ℕ) (error : List T → A) (all : List A) (done : List A) (ts : List T) → all ≡ done ++ all_items g segment error ts → 0 < length ts → g ts ≡ None →
    all ≡ (done ++ error (take (suc (segment ts)) ts) ∷ []) ++ all_items g segment error (drop (suc (segment ts)) ts)
loop_skips {T = T} {A = A} g falls segment error all done ts so_far some e =
    so_far ∙ ap (λ (xs : List A). done ++ xs) (items_skips g falls segment error ts some e) ∙ sym (append_assoc done (error (take (suc (segment ts)) ts) ∷ []) (all_items g segment error (drop (suc (segment ts)) ts)))

-- it ends where no token is left
pub loop_ends : {T A : Type 0} (g : Descent T A) (segment : List T → ℕ) (error : List T → A) (all : List A) (done : List A) (ts : List T) → all ≡ done ++ all_items g segment error ts → length ts ≡ 0 → all ≡ done
loop_ends g segment error all done [] so_far none = so_far ∙ append-nil done
loop_ends g segment error all done (t ∷ ts) so_far none = absurd (omega (arith, none))
