-- Finding a seen token by a key that rises.
use Rattle.std.proofs.Common.{◌≡◌, ◌⊎◌, inl, inr, ℕ, zero, suc, ◌+◌, ◌<◌, ◌≤◌, ◌==◌, nat_lt, Bool, true, false, List, [], ◌∷◌, length, get_or, Option, None, Some, refl, sym, ap, ◌∙◌, subst, arith, if◌then◌else◌}
use Rattle.std.specs.List.{AllWithin, find}
use Rattle.std.specs.List.Sorted.{IsNonDecreasingBy}
use Rattle.std.proofs.lemmas.Bool.Decides.{nat_tests}
use Rattle.interface_part.specs.declared.numbers.Key.{Key}
use Rattle.interface_part.specs.declared.numbers.Key.TheVariants as key
use Rattle.interface_part.specs.declared.numbers.SeenToken.{SeenToken}
use Rattle.interface_part.specs.Keys.{SeenApart, key_of}

-- a key is at least a number at the first token, and rises from one to the next
abbrev pub Rises : (SeenToken → ℕ) → (least : ℕ) → List SeenToken → Type 0
Rises f least [] = Unit {0}
Rises f least (s ∷ seen) = (least ≤ f s) × Rises f (suc (f s)) seen

lowered : (f : SeenToken → ℕ) (a b : ℕ) (seen : List SeenToken) → a ≤ b → Rises f b seen → Rises f a seen
lowered f a b [] le rises = tt
lowered f a b (s ∷ seen) le rises = (omega (arith, le, rises.0), rises.1)

-- the least key where numbers and places are at least these
abbrev pub least_key : Key → (number from : ℕ) → ℕ
least_key key.Number number from = number
least_key key.Start number from = from
least_key key.End number from = suc from

pub key_rises : (by : Key) (number from : ℕ) (seen : List SeenToken) → SeenApart number from seen → Rises (key_of by) (least_key by number from) seen
key_rises by number from [] apart = tt
key_rises key.Number number from (s ∷ seen) apart =
    let next : suc s.number ≤ s.number + 1 = omega arith in
    (apart.0, lowered (key_of key.Number) (suc s.number) (s.number + 1) seen next (key_rises key.Number (s.number + 1) s.span.end seen apart.3))
key_rises key.Start number from (s ∷ seen) apart =
    let next : suc s.span.start ≤ s.span.end = omega (arith, apart.2) in
    (apart.1, lowered (key_of key.Start) (suc s.span.start) s.span.end seen next (key_rises key.Start (s.number + 1) s.span.end seen apart.3))
key_rises key.End number from (s ∷ seen) apart =
    (omega (arith, apart.1, apart.2), key_rises key.End (s.number + 1) s.span.end seen apart.3)

at_least : (f : SeenToken → ℕ) (a : ℕ) (seen : List SeenToken) → Rises f a seen → (j : ℕ) (d : SeenToken) → j < length seen → a ≤ f (get_or seen j d)
at_least f a [] rises j d within = absurd (omega (arith, within))
at_least f a (s ∷ seen) rises zero d within = rises.0
at_least f a (s ∷ seen) rises (suc j) d within =
    let later : suc (f s) ≤ f (get_or seen j d) = at_least f (suc (f s)) seen rises.1 j d (omega (arith, within)) in
    omega (arith, rises.0, later)

pub non_decreasing : (f : SeenToken → ℕ) (a : ℕ) (seen : List SeenToken) → Rises f a seen → IsNonDecreasingBy f seen
non_decreasing f a [] rises i j d le within = absurd (omega (arith, within))
non_decreasing f a (s ∷ seen) rises zero zero d le within = omega arith
non_decreasing f a (s ∷ seen) rises zero (suc j) d le within =
    let later : suc (f s) ≤ f (get_or seen j d) = at_least f (suc (f s)) seen rises.1 j d (omega (arith, within)) in
    omega (arith, later)
non_decreasing f a (s ∷ seen) rises (suc i) zero d le within = absurd (omega (arith, le))
non_decreasing f a (s ∷ seen) rises (suc i) (suc j) d le within = non_decreasing f (suc (f s)) seen rises.1 i j d (omega (arith, le)) (omega (arith, within))

differs : (a b : ℕ) → a < b → (a == b) ≡ false
differs a b less = grind (arith, nat_tests, less)

differs_more : (a b : ℕ) → b < a → (a == b) ≡ false
differs_more a b less = grind (arith, nat_tests, less)

same : (a : ℕ) → (a == a) ≡ true
same a = grind (arith, nat_tests)

passed : (f : SeenToken → ℕ) (k : ℕ) (s : SeenToken) (seen : List SeenToken) → (f s == k) ≡ false → find (λ x. f x == k) (s ∷ seen) ≡ find (λ x. f x == k) seen
passed f k s seen e = ap (λ (b : Bool). if b then Some s else find (λ x. f x == k) seen) e

hit : (f : SeenToken → ℕ) (k : ℕ) (s : SeenToken) (seen : List SeenToken) → (f s == k) ≡ true → find (λ x. f x == k) (s ∷ seen) ≡ Some s
hit f k s seen e = ap (λ (b : Bool). if b then Some s else find (λ x. f x == k) seen) e

-- what is smaller than the first key is found nowhere
none_below : (f : SeenToken → ℕ) (a k : ℕ) (seen : List SeenToken) → k < a → Rises f a seen → find (λ x. f x == k) seen ≡ None
none_below f a k [] less rises = refl
none_below f a k (s ∷ seen) less rises =
    passed f k s seen (differs_more (f s) k (omega (arith, less, rises.0))) ∙ none_below f (suc (f s)) k seen (omega (arith, less, rises.0)) rises.1

smaller_than : (a b : ℕ) → nat_lt a b ≡ true → a < b
smaller_than a b e = grind (arith, nat_tests, e)

no_smaller : (a b : ℕ) → nat_lt a b ≡ false → b ≤ a
no_smaller a b e = grind (arith, nat_tests, e)

-- where so many tokens have smaller keys, the next one is found if it has the key
pub found : (f : SeenToken → ℕ) (k : ℕ) (seen : List SeenToken) (i : ℕ) (s : SeenToken) → AllWithin (λ x. nat_lt (f x) k ≡ true) seen 0 i → i < length seen → s ≡ get_or seen i s →
    (f s == k) ≡ true → Some s ≡ find (λ x. f x == k) seen
found f k [] i s before within is e = absurd (omega (arith, within))
found f k (x ∷ seen) zero s before within is e =
    ap (λ (y : SeenToken). Some y) is ∙ sym (hit f k x seen (subst (λ (y : SeenToken). (f y == k) ≡ true) is e))
found f k (x ∷ seen) (suc i) s before within is e =
    found f k seen i s (λ j d low high. before (suc j) d (omega arith) (omega (arith, high))) (omega (arith, within)) is e
    ∙ sym (passed f k x seen (differs (f x) k (smaller_than (f x) k (before 0 x (omega arith) (omega arith)))))

-- and none is where it has another, or there is no next
pub none_found : (f : SeenToken → ℕ) (a k : ℕ) (seen : List SeenToken) (i : ℕ) (s : SeenToken) → Rises f a seen → AllWithin (λ x. nat_lt (f x) k ≡ true) seen 0 i →
    AllWithin (λ x. nat_lt (f x) k ≡ false) seen i (length seen) → s ≡ get_or seen i s → (f s == k) ≡ false → None ≡ find (λ x. f x == k) seen
none_found f a k [] i s rises before behind is e = refl
none_found f a k (x ∷ seen) zero s rises before behind is e =
    let other : (f x == k) ≡ false = subst (λ (y : SeenToken). (f y == k) ≡ false) is e in
    let least : k ≤ f x = no_smaller (f x) k (behind 0 x (omega arith) (omega arith)) in
    sym (passed f k x seen other ∙ none_below f (suc (f x)) k seen (omega (arith, least)) rises.1)
none_found f a k (x ∷ seen) (suc i) s rises before behind is e =
    none_found f (suc (f x)) k seen i s rises.1 (λ j d low high. before (suc j) d (omega arith) (omega (arith, high)))
    (λ j d low high. behind (suc j) d (omega (arith, low)) (omega (arith, high))) is e
    ∙ sym (passed f k x seen (differs (f x) k (smaller_than (f x) k (before 0 x (omega arith) (omega arith)))))

pub none_at_end : (f : SeenToken → ℕ) (k : ℕ) (seen : List SeenToken) (i : ℕ) → AllWithin (λ x. nat_lt (f x) k ≡ true) seen 0 i → length seen ≤ i → None ≡ find (λ x. f x == k) seen
none_at_end f k [] i before past = refl
none_at_end f k (x ∷ seen) zero before past = absurd (omega (arith, past))
none_at_end f k (x ∷ seen) (suc i) before past =
    none_at_end f k seen i (λ j d low high. before (suc j) d (omega arith) (omega (arith, high))) (omega (arith, past))
    ∙ sym (passed f k x seen (differs (f x) k (smaller_than (f x) k (before 0 x (omega arith) (omega arith)))))

-- the token is one of these
abbrev pub IsOne : SeenToken → List SeenToken → Type 0
IsOne s [] = ⊥
IsOne s (x ∷ seen) = (x ≡ s) ⊎ IsOne s seen

above : (f : SeenToken → ℕ) (a : ℕ) (s : SeenToken) (seen : List SeenToken) → Rises f a seen → IsOne s seen → a ≤ f s
above f a s [] rises is = absurd is
above f a s (x ∷ seen) rises (inl e) = subst (λ (y : SeenToken). a ≤ f y) e rises.0
above f a s (x ∷ seen) rises (inr is) = let later : suc (f x) ≤ f s = above f (suc (f x)) s seen rises.1 is in omega (arith, rises.0, later)

-- each is found by its key
pub one_found : (f : SeenToken → ℕ) (a : ℕ) (s : SeenToken) (seen : List SeenToken) → Rises f a seen → IsOne s seen → find (λ x. f x == f s) seen ≡ Some s
one_found f a s [] rises is = absurd is
one_found f a s (x ∷ seen) rises (inl e) =
    hit f (f s) x seen (subst (λ (y : SeenToken). (f x == f y) ≡ true) e (same (f x))) ∙ ap (λ (y : SeenToken). Some y) e
one_found f a s (x ∷ seen) rises (inr is) =
    let later : suc (f x) ≤ f s = above f (suc (f x)) s seen rises.1 is in
    passed f (f s) x seen (differs (f x) (f s) (omega (arith, later))) ∙ one_found f (suc (f x)) s seen rises.1 is

pub none_there : {A : Type 0} {x : A} → None ≡ Some x → ⊥
none_there e = grind (arith, e)

equal : (a b : ℕ) → (a == b) ≡ true → a ≡ b
equal a b e = grind (arith, nat_tests, e)

-- what is found is one of them, and has the key
pub is_found : (f : SeenToken → ℕ) (k : ℕ) (s : SeenToken) (seen : List SeenToken) → find (λ x. f x == k) seen ≡ Some s → IsOne s seen × (f s ≡ k)
is_found f k s [] e = absurd (none_there e)
is_found f k s (x ∷ seen) e = by (f x == k) refl (λ d. is_found f k s seen d)
  where
    by : (b : Bool) → (f x == k) ≡ b → (find (λ x. f x == k) seen ≡ Some s → IsOne s seen × (f s ≡ k)) → IsOne s (x ∷ seen) × (f s ≡ k)
    by true h further =
        let first : Some x ≡ Some s = sym (hit f k x seen h) ∙ e in
        let one : x ≡ s = grind (arith, first) in
        (inl one, subst (λ (y : SeenToken). f y ≡ k) one (equal (f x) k h))
    by false h further = let rest = further (sym (passed f k x seen h) ∙ e) in (inr rest.0, rest.1)

pub is_equal : (a b : ℕ) → a ≡ b → (a == b) ≡ true
is_equal a b e = grind (arith, nat_tests, e)

pub is_other : (a b : ℕ) → (a ≡ b → ⊥) → (a == b) ≡ false
is_other a b e = grind (arith, nat_tests, e)
