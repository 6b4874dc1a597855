-- What the loops keep: right sides behind an operand, elements, lists and items.
use Rattle.std.proofs.Common.{◌≡◌, ℕ, zero, suc, ◌-◌, ◌<◌, ◌≤◌, ◌++◌, Bool, true, false, if◌then◌else◌, List, [], ◌∷◌, length, map, drop, take, Option, Some, None, refl, sym, ap, ◌∙◌, arith}
use Rattle.std.proofs.lemmas.Bool.Decides.{nat_tests}
use Rattle.std.proofs.lemmas.List.{append-nil, append_assoc}
use Rattle.readings.specs.Readings.{Reading, tokens_read, behind, made, listed, first_behind}
use Rattle.readings.specs.Descent.{Descent, bind, or_else, take_turn, take_maybe, take_at_most, take_many, take_onto, take_at_most_elements, take_items_at, ◌▸◌}
use Rattle.readings.specs.Repetition.{IsFound, found_or}
use Rattle.readings.specs.Levels.{onto_stays}
use Rattle.readings.specs.Elements.{preceded}
use Rattle.dart_tree.specs.Tree.{Tree}
use Rattle.dart_tokens.specs.declared.grouped_token.GroupedToken.{GroupedToken as Token}
use Rattle.grammar.specs.Types.{separated}
use Rattle.dart_tree.specs.Heights.{height, fits}

-- The node may lie one deeper, or not.

pub fits_deep : (n : ℕ) (t : Tree) (h : ℕ) → h ≡ height t → h ≤ n → fits n t ≡ true
fits_deep n t h e less = let same : height t ≤ n = omega (arith, e, less) in grind (arith, nat_tests)

pub fits_not : (n : ℕ) (t : Tree) (h : ℕ) → h ≡ height t → n < h → fits n t ≡ false
fits_not n t h e more = let same : n < height t = omega (arith, e, more) in grind (arith, nat_tests)

-- Right sides.

stays_found : {T A : Type 0} (o : Option (Reading T A)) (x : Reading T A) → IsFound o → or_else o (Some x) ≡ o
stays_found None x found = elim found [ ]
stays_found (Some y) x found = refl

onto_found_at : {T A B : Type 0} (t : Bool) (o : Option (Reading T B)) (f : Reading T B → Option (Reading T A)) (x : Reading T A) → ((y : Reading T B) → IsFound (f y)) → IsFound (if t then or_else (bind o f) (Some x) else Some x)
onto_found_at false o f x each = tt
onto_found_at true None f x each = tt
onto_found_at true (Some y) f x each = found_or (f y) x

onto_found : {T A B : Type 0} (start : List T) (n : ℕ) (room : A → Bool) (join : List T → A → B → A) (h : Descent T B) (left : A) (ts : List T) → IsFound (take_onto start n room join h left ts)
onto_found start zero room join h left ts = tt
onto_found start (suc n) room join h left ts = onto_found_at (room left) (h ts) (λ y. take_onto start n room join h (join (tokens_read start y.1) left y.0) y.1) (left, ts) (λ y. onto_found start n room join h (join (tokens_read start y.1) left y.0) y.1)

-- another right side
pub onto_goes : {T A B : Type 0} (start : List T) (n : ℕ) (room : A → Bool) (join : List T → A → B → A) (h : Descent T B) (left : A) (ts : List T) (y : Reading T B) → 0 < n → room left ≡ true → h ts ≡ Some y →
    take_onto start n room join h left ts ≡ take_onto start (n - 1) room join h (join (tokens_read start y.1) left y.0) y.1
onto_goes start zero room join h left ts y some e d = absurd (omega (arith, some))
onto_goes start (suc n) room join h left ts y some e d =
    let less : suc n - 1 ≡ n = omega arith in
    rw (e, d, less) (stays_found (take_onto start n room join h (join (tokens_read start y.1) left y.0) y.1) (left, ts) (onto_found start n room join h (join (tokens_read start y.1) left y.0) y.1))

-- no other may come
pub onto_out : {T A B : Type 0} (start : List T) (n : ℕ) (room : A → Bool) (join : List T → A → B → A) (h : Descent T B) (left : A) (ts : List T) → n ≡ 0 → take_onto start n room join h left ts ≡ Some (left, ts)
onto_out start zero room join h left ts e = refl
onto_out start (suc n) room join h left ts e = absurd (omega (arith, e))

-- no other has room
pub onto_deep : {T A B : Type 0} (start : List T) (n : ℕ) (room : A → Bool) (join : List T → A → B → A) (h : Descent T B) (left : A) (ts : List T) → room left ≡ false → take_onto start n room join h left ts ≡ Some (left, ts)
onto_deep start zero room join h left ts e = refl
onto_deep start (suc n) room join h left ts e = rw e refl

-- no other comes next
pub onto_ends : {T A B : Type 0} (start : List T) (n : ℕ) (room : A → Bool) (join : List T → A → B → A) (h : Descent T B) (left : A) (ts : List T) → h ts ≡ None → take_onto start n room join h left ts ≡ Some (left, ts)
onto_ends start n room join h left ts e = onto_stays start n room join h left ts e

-- Elements.

pub elements_out : {T A B : Type 0} (n : ℕ) (g : Descent T A) (comma : Descent T B) (done : List A) (ts : List T) → n ≡ 0 → preceded done (take_at_most_elements n g comma ts) ≡ Some (done, ts)
elements_out {T = T} {A = A} zero g comma done ts e = ap (λ (xs : List A). Some (xs, ts)) (append-nil done)
elements_out (suc n) g comma done ts e = absurd (omega (arith, e))

none_at : {T A B : Type 0} (n : ℕ) (g : Descent T A) (comma : Descent T B) (ts : List T) → g ts ≡ None → take_at_most_elements n g comma ts ≡ Some ([], ts)
none_at zero g comma ts e = refl
none_at (suc n) g comma ts e = rw e refl

pub elements_stop : {T A B : Type 0} (n : ℕ) (g : Descent T A) (comma : Descent T B) (done : List A) (ts : List T) → g ts ≡ None → preceded done (take_at_most_elements n g comma ts) ≡ Some (done, ts)
elements_stop {T = T} {A = A} n g comma done ts e = ap (preceded done) (none_at n g comma ts e) ∙ ap (λ (xs : List A). Some (xs, ts)) (append-nil done)

pub elements_last : {T A B : Type 0} (n : ℕ) (g : Descent T A) (comma : Descent T B) (done : List A) (ts : List T) (x : Reading T A) → 0 < n → g ts ≡ Some x → comma x.1 ≡ None →
    preceded done (take_at_most_elements n g comma ts) ≡ Some (done ++ x.0 ∷ [], x.1)
elements_last zero g comma done ts x some e d = absurd (omega (arith, some))
elements_last (suc n) g comma done ts x some e d = rw (e, d) refl

preceded_twice : {T A : Type 0} (a b : List A) (o : Option (Reading T (List A))) → preceded a (preceded b o) ≡ preceded (a ++ b) o
preceded_twice a b None = refl
preceded_twice {T = T} {A = A} a b (Some x) = ap (λ (xs : List A). Some (xs, x.1)) (sym (append_assoc a b x.0))

more_at : {T A B : Type 0} (x : A) (y : Reading T B) (ts us : List T) (o : Option (Reading T (List A))) → IsFound o →
    or_else (bind (bind (or_else (bind (bind o (λ z. Some (behind y.0 z))) (λ w. Some (made (λ read a. Some a) us w))) (Some (None, us))) (λ w. Some (behind x w))) (λ v. Some (made (λ read a. first_behind a) ts v))) (Some ([], ts))
    ≡ preceded (x ∷ []) o
more_at x y ts us None found = elim found [ ]
more_at x y ts us (Some z) found = refl

found_at_most : {T A B : Type 0} (n : ℕ) (g : Descent T A) (comma : Descent T B) (ts : List T) → IsFound (take_at_most_elements n g comma ts)
found_at_most zero g comma ts = tt
found_at_most (suc n) g comma ts = found_or (take_turn first_behind (g ▸ take_maybe (comma ▸ take_at_most_elements n g comma)) ts) ([], ts)

pub elements_goes : {T A B : Type 0} (n : ℕ) (g : Descent T A) (comma : Descent T B) (done : List A) (ts : List T) (x : Reading T A) (y : Reading T B) → 0 < n → g ts ≡ Some x → comma x.1 ≡ Some y →
    preceded done (take_at_most_elements n g comma ts) ≡ preceded (done ++ x.0 ∷ []) (take_at_most_elements (n - 1) g comma y.1)
elements_goes zero g comma done ts x y some e d = absurd (omega (arith, some))
elements_goes (suc n) g comma done ts x y some e d =
    let less : suc n - 1 ≡ n = omega arith in
    rw (e, d, less) (ap (preceded done) (more_at x.0 y ts x.1 (take_at_most_elements n g comma y.1) (found_at_most n g comma y.1)) ∙ preceded_twice done (x.0 ∷ []) (take_at_most_elements n g comma y.1))

-- Lists.

pub many_out : {T A : Type 0} (n : ℕ) (g : Descent T A) (done : List A) (ts : List T) → n ≡ 0 → preceded done (take_at_most n g ts) ≡ Some (done, ts)
many_out {T = T} {A = A} zero g done ts e = ap (λ (xs : List A). Some (xs, ts)) (append-nil done)
many_out (suc n) g done ts e = absurd (omega (arith, e))

some_none : {T A : Type 0} (n : ℕ) (g : Descent T A) (ts : List T) → g ts ≡ None → take_at_most n g ts ≡ Some ([], ts)
some_none zero g ts e = refl
some_none (suc n) g ts e = rw e refl

pub many_stop : {T A : Type 0} (n : ℕ) (g : Descent T A) (done : List A) (ts : List T) → g ts ≡ None → preceded done (take_at_most n g ts) ≡ Some (done, ts)
many_stop {T = T} {A = A} n g done ts e = ap (preceded done) (some_none n g ts e) ∙ ap (λ (xs : List A). Some (xs, ts)) (append-nil done)

one_more : {T A : Type 0} (x : A) (ts : List T) (o : Option (Reading T (List A))) → IsFound o →
    or_else (bind (bind o (λ y. Some (behind x y))) (λ v. Some (made (λ read a. listed a) ts v))) (Some ([], ts)) ≡ preceded (x ∷ []) o
one_more x ts None found = elim found [ ]
one_more x ts (Some z) found = refl

found_many : {T A : Type 0} (n : ℕ) (g : Descent T A) (ts : List T) → IsFound (take_at_most n g ts)
found_many zero g ts = tt
found_many (suc n) g ts = found_or (take_turn listed (g ▸ take_at_most n g) ts) ([], ts)

pub many_goes : {T A : Type 0} (n : ℕ) (g : Descent T A) (done : List A) (ts : List T) (x : Reading T A) → 0 < n → g ts ≡ Some x →
    preceded done (take_at_most n g ts) ≡ preceded (done ++ x.0 ∷ []) (take_at_most (n - 1) g x.1)
many_goes zero g done ts x some e = absurd (omega (arith, some))
many_goes (suc n) g done ts x some e =
    let less : suc n - 1 ≡ n = omega arith in
    rw (e, less) (ap (preceded done) (one_more x.0 ts (take_at_most n g x.1) (found_many n g x.1)) ∙ preceded_twice done (x.0 ∷ []) (take_at_most n g x.1))

-- Lists with commas between.

-- what stands behind commas, behind what is done
abbrev pub continued : {A : Type 0} → List A → Option (Reading Token (List (Token × A))) → Option (Reading Token (List A))
continued done None = None
continued done (Some x) = Some (done ++ map (λ y. y.1) x.0, x.1)

first_at : {A : Type 0} (x : A) (ts : List Token) (o : Option (Reading Token (List (Token × A)))) →
    bind (bind o (λ y. Some (behind x y))) (λ v. Some (made (λ read a. separated a) ts v)) ≡ continued (x ∷ []) o
first_at x ts None = refl
first_at x ts (Some y) = refl

pub continued_first : {A : Type 0} (p : Descent Token A) (comma : Descent Token Token) (ts : List Token) (x : Reading Token A) → p ts ≡ Some x →
    take_turn separated (p ▸ take_many (comma ▸ p)) ts ≡ continued (x.0 ∷ []) (take_at_most (length x.1) (comma ▸ p) x.1)
continued_first p comma ts x e = rw e (first_at x.0 ts (take_at_most (length x.1) (comma ▸ p) x.1))

pub continued_out : {A : Type 0} (n : ℕ) (g : Descent Token (Token × A)) (done : List A) (ts : List Token) → n ≡ 0 → continued done (take_at_most n g ts) ≡ Some (done, ts)
continued_out {A = A} zero g done ts e = ap (λ (xs : List A). Some (xs, ts)) (append-nil done)
continued_out (suc n) g done ts e = absurd (omega (arith, e))

pub continued_stop : {A : Type 0} (n : ℕ) (g : Descent Token (Token × A)) (done : List A) (ts : List Token) → g ts ≡ None → continued done (take_at_most n g ts) ≡ Some (done, ts)
continued_stop {A = A} n g done ts e = ap (continued done) (some_none n g ts e) ∙ ap (λ (xs : List A). Some (xs, ts)) (append-nil done)

continued_one : {A : Type 0} (done : List A) (x : Token × A) (o : Option (Reading Token (List (Token × A)))) → continued done (preceded (x ∷ []) o) ≡ continued (done ++ x.1 ∷ []) o
continued_one done x None = refl
continued_one {A = A} done x (Some y) = ap (λ (xs : List A). Some (xs, y.1)) (sym (append_assoc done (x.1 ∷ []) (map (λ z. z.1) y.0)))

pub continued_goes : {A : Type 0} (n : ℕ) (g : Descent Token (Token × A)) (done : List A) (ts : List Token) (x : Reading Token (Token × A)) → 0 < n → g ts ≡ Some x →
    continued done (take_at_most n g ts) ≡ continued (done ++ x.0.1 ∷ []) (take_at_most (n - 1) g x.1)
continued_goes zero g done ts x some e = absurd (omega (arith, some))
continued_goes (suc n) g done ts x some e =
    let less : suc n - 1 ≡ n = omega arith in
    rw (e, less) (ap (continued done) (one_more x.0 ts (take_at_most n g x.1) (found_many n g x.1)) ∙ continued_one done x.0 (take_at_most n g x.1))

-- Items.

pub items_out : {A : Type 0} (n : ℕ) (g : Descent Token A) (segment : List Token → ℕ) (error : List Token → A) (done : List A) (ts : List Token) → n ≡ 0 → done ++ take_items_at n g segment error ts ≡ done
items_out zero g segment error done ts e = append-nil done
items_out (suc n) g segment error done ts e = absurd (omega (arith, e))

pub items_end : {A : Type 0} (n : ℕ) (g : Descent Token A) (segment : List Token → ℕ) (error : List Token → A) (done : List A) (ts : List Token) → length ts ≡ 0 → done ++ take_items_at n g segment error ts ≡ done
items_end zero g segment error done ts e = append-nil done
items_end (suc n) g segment error done [] e = append-nil done
items_end (suc n) g segment error done (t ∷ ts) e = absurd (omega (arith, e))

pub items_goes : {A : Type 0} (n : ℕ) (g : Descent Token A) (segment : List Token → ℕ) (error : List Token → A) (done : List A) (ts : List Token) (x : Reading Token A) → 0 < n → 0 < length ts → g ts ≡ Some x →
    done ++ take_items_at n g segment error ts ≡ (done ++ x.0 ∷ []) ++ take_items_at (n - 1) g segment error x.1
items_goes zero g segment error done ts x some there e = absurd (omega (arith, some))
items_goes (suc n) g segment error done [] x some there e = absurd (omega (arith, there))
items_goes (suc n) g segment error done (t ∷ ts) x some there e =
    let less : suc n - 1 ≡ n = omega arith in
    rw (e, less) (sym (append_assoc done (x.0 ∷ []) (take_items_at n g segment error x.1)))

pub items_skip : {A : Type 0} (n : ℕ) (g : Descent Token A) (segment : List Token → ℕ) (error : List Token → A) (done : List A) (ts us : List Token) (a : A) → 0 < n → 0 < length ts → g ts ≡ None → us ≡ drop (suc (segment ts)) ts → a ≡ error (take (suc (segment ts)) ts) →
    done ++ take_items_at n g segment error ts ≡ (done ++ a ∷ []) ++ take_items_at (n - 1) g segment error us
items_skip zero g segment error done ts us a some there e at made = absurd (omega (arith, some))
items_skip (suc n) g segment error done [] us a some there e at made = absurd (omega (arith, there))
items_skip (suc n) g segment error done (t ∷ ts) us a some there e at made =
    let less : suc n - 1 ≡ n = omega arith in
    rw (e, less, at, made) (sym (append_assoc done (error (take (suc (segment (t ∷ ts))) (t ∷ ts)) ∷ []) (take_items_at n g segment error (drop (suc (segment (t ∷ ts))) (t ∷ ts)))))

-- The same, behind what the loop has kept so far.

pub chain_goes : {T A B : Type 0} (all : Option (Reading T A)) (start : List T) (n m : ℕ) (room : A → Bool) (join : List T → A → B → A) (h : Descent T B) (left w : A) (ts us : List T) (y : B) → all ≡ take_onto start n room join h left ts → 0 < n → room left ≡ true →
    h ts ≡ Some (y, us) → w ≡ join (tokens_read start us) left y → m ≡ n - 1 → all ≡ take_onto start m room join h w us
chain_goes all start n m room join h left w ts us y so some fit e made less =
    so ∙ onto_goes start n room join h left ts (y, us) some fit e ∙ ap (λ v. take_onto start (n - 1) room join h v us) (sym made) ∙ ap (λ k. take_onto start k room join h w us) (sym less)

pub chain_out : {T A B : Type 0} (all : Option (Reading T A)) (start : List T) (n : ℕ) (room : A → Bool) (join : List T → A → B → A) (h : Descent T B) (left : A) (ts : List T) → all ≡ take_onto start n room join h left ts → n ≡ 0 → all ≡ Some (left, ts)
chain_out all start n room join h left ts so e = so ∙ onto_out start n room join h left ts e

pub chain_deep : {T A B : Type 0} (all : Option (Reading T A)) (start : List T) (n : ℕ) (room : A → Bool) (join : List T → A → B → A) (h : Descent T B) (left : A) (ts : List T) → all ≡ take_onto start n room join h left ts → room left ≡ false → all ≡ Some (left, ts)
chain_deep all start n room join h left ts so e = so ∙ onto_deep start n room join h left ts e

pub chain_ends : {T A B : Type 0} (all : Option (Reading T A)) (start : List T) (n : ℕ) (room : A → Bool) (join : List T → A → B → A) (h : Descent T B) (left : A) (ts : List T) → all ≡ take_onto start n room join h left ts → h ts ≡ None → all ≡ Some (left, ts)
chain_ends all start n room join h left ts so e = so ∙ onto_ends start n room join h left ts e

pub each_out : {T A B : Type 0} (all : Option (Reading T (List A))) (n : ℕ) (g : Descent T A) (comma : Descent T B) (done : List A) (ts : List T) → all ≡ preceded done (take_at_most_elements n g comma ts) → n ≡ 0 → all ≡ Some (done, ts)
each_out all n g comma done ts so e = so ∙ elements_out n g comma done ts e

pub each_stop : {T A B : Type 0} (all : Option (Reading T (List A))) (n : ℕ) (g : Descent T A) (comma : Descent T B) (done : List A) (ts : List T) → all ≡ preceded done (take_at_most_elements n g comma ts) → g ts ≡ None → all ≡ Some (done, ts)
each_stop all n g comma done ts so e = so ∙ elements_stop n g comma done ts e

pub each_last : {T A B : Type 0} (all : Option (Reading T (List A))) (n : ℕ) (g : Descent T A) (comma : Descent T B) (done new : List A) (ts us : List T) (x : A) → all ≡ preceded done (take_at_most_elements n g comma ts) → 0 < n → g ts ≡ Some (x, us) → comma us ≡ None → new ≡ done ++ x ∷ [] →
    all ≡ Some (new, us)
each_last all n g comma done new ts us x so some e d made = so ∙ elements_last n g comma done ts (x, us) some e d ∙ ap (λ xs. Some (xs, us)) (sym made)

pub each_goes : {T A B : Type 0} (all : Option (Reading T (List A))) (n m : ℕ) (g : Descent T A) (comma : Descent T B) (done new : List A) (ts us vs : List T) (x : A) (y : B) → all ≡ preceded done (take_at_most_elements n g comma ts) → 0 < n → g ts ≡ Some (x, us) →
    comma us ≡ Some (y, vs) → new ≡ done ++ x ∷ [] → m ≡ n - 1 → all ≡ preceded new (take_at_most_elements m g comma vs)
each_goes all n m g comma done new ts us vs x y so some e d made less =
    so ∙ elements_goes n g comma done ts (x, us) (y, vs) some e d ∙ ap (λ xs. preceded xs (take_at_most_elements (n - 1) g comma vs)) (sym made) ∙ ap (λ k. preceded new (take_at_most_elements k g comma vs)) (sym less)

pub row_out : {T A : Type 0} (all : Option (Reading T (List A))) (n : ℕ) (g : Descent T A) (done : List A) (ts : List T) → all ≡ preceded done (take_at_most n g ts) → n ≡ 0 → all ≡ Some (done, ts)
row_out all n g done ts so e = so ∙ many_out n g done ts e

pub row_stop : {T A : Type 0} (all : Option (Reading T (List A))) (n : ℕ) (g : Descent T A) (done : List A) (ts : List T) → all ≡ preceded done (take_at_most n g ts) → g ts ≡ None → all ≡ Some (done, ts)
row_stop all n g done ts so e = so ∙ many_stop n g done ts e

pub row_goes : {T A : Type 0} (all : Option (Reading T (List A))) (n m : ℕ) (g : Descent T A) (done new : List A) (ts us : List T) (x : A) → all ≡ preceded done (take_at_most n g ts) → 0 < n → g ts ≡ Some (x, us) → new ≡ done ++ x ∷ [] → m ≡ n - 1 →
    all ≡ preceded new (take_at_most m g us)
row_goes all n m g done new ts us x so some e made less =
    so ∙ many_goes n g done ts (x, us) some e ∙ ap (λ xs. preceded xs (take_at_most (n - 1) g us)) (sym made) ∙ ap (λ k. preceded new (take_at_most k g us)) (sym less)

pub list_out : {A : Type 0} (all : Option (Reading Token (List A))) (n : ℕ) (g : Descent Token (Token × A)) (done : List A) (ts : List Token) → all ≡ continued done (take_at_most n g ts) → n ≡ 0 → all ≡ Some (done, ts)
list_out all n g done ts so e = so ∙ continued_out n g done ts e

pub list_stop : {A : Type 0} (all : Option (Reading Token (List A))) (n : ℕ) (g : Descent Token (Token × A)) (done : List A) (ts : List Token) → all ≡ continued done (take_at_most n g ts) → g ts ≡ None → all ≡ Some (done, ts)
list_stop all n g done ts so e = so ∙ continued_stop n g done ts e

pub list_goes : {A : Type 0} (all : Option (Reading Token (List A))) (n m : ℕ) (g : Descent Token (Token × A)) (done new : List A) (ts us : List Token) (k : Token) (x : A) → all ≡ continued done (take_at_most n g ts) → 0 < n → g ts ≡ Some ((k, x), us) →
    new ≡ done ++ x ∷ [] → m ≡ n - 1 → all ≡ continued new (take_at_most m g us)
list_goes all n m g done new ts us k x so some e made less =
    so ∙ continued_goes n g done ts ((k, x), us) some e ∙ ap (λ xs. continued xs (take_at_most (n - 1) g us)) (sym made) ∙ ap (λ j. continued new (take_at_most j g us)) (sym less)
