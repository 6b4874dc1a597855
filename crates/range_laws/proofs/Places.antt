-- What stands at the place of a part of a text: that part, where tokens rise.
use Rattle.std.proofs.Common.{◌≡◌, ℕ, zero, suc, ◌-◌, ◌<◌, ◌≤◌, Bool, true, false, not, ◌&&◌, List, [], ◌∷◌, length, take, drop, nat_lt, slice_get, refl, ap, sym, ◌∙◌, subst, arith}
use Rattle.std.proofs.lemmas.Bool.Decides.{nat_tests}
use Rattle.std.specs.Option.{option_map_or}
use Rattle.readings.specs.Leading.{Each}
use Rattle.dart_tree.specs.declared.places.Place.{Place}
use Rattle.dart_tokens.specs.declared.grouped_token.GroupedToken.{GroupedToken as Token}
use Rattle.grammar.specs.Tokens.{last_end, place_over}
use Rattle.grammar.specs.Whole.{begins_within, tokens_over}
use Rattle.node_counts.specs.Rising.{Rise}

each_drop : (P : Token → Type 0) (n : ℕ) (ts : List Token) → Each P ts → Each P (drop n ts)
each_drop P zero ts h = h
each_drop P (suc n) [] h = h
each_drop P (suc n) (t ∷ ts) h = each_drop P n ts h.1

each_take : (P : Token → Type 0) (n : ℕ) (ts : List Token) → Each P ts → Each P (take n ts)
each_take P zero ts h = tt
each_take P (suc n) [] h = tt
each_take P (suc n) (t ∷ ts) h = (h.0, each_take P n ts h.1)

each_more : (P Q : Token → Type 0) (ts : List Token) → ((t : Token) → P t → Q t) → Each P ts → Each Q ts
each_more P Q [] f h = tt
each_more P Q (t ∷ ts) f h = (f t h.0, each_more P Q ts f h.1)

rise_take : (n : ℕ) (ts : List Token) → Rise ts → Rise (take n ts)
rise_take zero ts r = tt
rise_take (suc n) [] r = tt
rise_take (suc n) (t ∷ ts) r = (r.0, (each_take (λ u. t.end ≤ u.start) n ts r.1.0, rise_take n ts r.1.1))

-- Tests.

both_false : (a b : Bool) → b ≡ false → (a && b) ≡ false
both_false true b e = e
both_false false b e = refl

first_false : (a b : Bool) → a ≡ true → (not a && b) ≡ false
first_false true b e = refl
first_false false b e = absurd (cc)

both_true : (a b : Bool) → a ≡ false → b ≡ true → (not a && b) ≡ true
both_true true b e d = absurd (cc)
both_true false b e d = d

is_less : (a b : ℕ) → a < b → nat_lt a b ≡ true
is_less a b h = grind (arith, nat_tests)

is_not_less : (a b : ℕ) → b ≤ a → nat_lt a b ≡ false
is_not_less a b h = grind (arith, nat_tests)

left_out : (at : Place) (t : Token) (ts : List Token) → begins_within at t ≡ false → tokens_over (t ∷ ts) at ≡ tokens_over ts at
left_out at t ts e = rw e refl

held_in : (at : Place) (t : Token) (ts : List Token) → begins_within at t ≡ true → tokens_over (t ∷ ts) at ≡ t ∷ tokens_over ts at
held_in at t ts e = rw e refl

out_behind : (at : Place) (t : Token) → at.span.end ≤ t.start → begins_within at t ≡ false
out_behind at t h = both_false (not (nat_lt t.start at.span.start)) (nat_lt t.start at.span.end) (is_not_less t.start at.span.end h)

none_behind : (at : Place) (ts : List Token) → Each (λ u. at.span.end ≤ u.start) ts → tokens_over ts at ≡ []
none_behind at [] h = refl
none_behind at (t ∷ ts) h = left_out at t ts (out_behind at t h.0) ∙ none_behind at ts h.1

-- The first tokens of a text.

last_behind : (t u : Token) (us : List Token) → last_end (t ∷ u ∷ us) ≡ last_end (u ∷ us)
last_behind t u us =
    ap (λ (n : ℕ). option_map_or (λ t. t.end) (slice_get (t ∷ u ∷ us) n) 0) (more (length us))
    ∙ sym (ap (λ (n : ℕ). option_map_or (λ t. t.end) (slice_get (u ∷ us) n) 0) (less (length us))) where
      more : (k : ℕ) → suc (suc k) - 1 ≡ suc k
      more k = omega arith

      less : (k : ℕ) → suc k - 1 ≡ k
      less k = omega arith

all_behind_none : (ts : List Token) → Each (λ u. last_end [] ≤ u.start) ts
all_behind_none [] = tt
all_behind_none (t ∷ ts) = (omega arith, all_behind_none ts)

-- what stands behind the first tokens begins where the last of them ends, or behind it
begin_behind : (n : ℕ) (ts : List Token) → Rise ts → Each (λ u. last_end (take n ts) ≤ u.start) (drop n ts)
begin_behind zero ts r = all_behind_none ts
begin_behind (suc n) [] r = tt
begin_behind (suc zero) (t ∷ ts) r = r.1.0
begin_behind (suc (suc n)) (t ∷ []) r = tt
begin_behind (suc (suc n)) (t ∷ (u ∷ us)) r =
    subst (λ (e : ℕ). Each (λ v. e ≤ v.start) (drop n us)) (sym (last_behind t u (take n us))) (begin_behind (suc n) (u ∷ us) r.1.1)

-- each of them begins before the last ends
begin_before : (ts : List Token) → Rise ts → Each (λ u. u.start < last_end ts) ts
begin_before [] r = tt
begin_before (t ∷ []) r = (r.0, tt)
begin_before (t ∷ (u ∷ us)) r =
    let rest = begin_before (u ∷ us) r.1.1 in
    subst (λ (e : ℕ). (t.start < e) × Each (λ v. v.start < e) (u ∷ us)) (sym (last_behind t u us)) (omega (arith, r.0, r.1.0.0, rest.0), rest)

-- the first n tokens stand at a place that they alone begin within
held_first : (n : ℕ) (at : Place) (ts : List Token) → Each (λ u. at.span.start ≤ u.start) ts → Each (λ u. u.start < at.span.end) (take n ts) → Each (λ u. at.span.end ≤ u.start) (drop n ts) → tokens_over ts at ≡ take n ts
held_first zero at ts s b e = none_behind at ts e
held_first (suc n) at [] s b e = refl
held_first (suc n) at (t ∷ ts) s b e =
    held_in at t ts (both_true (nat_lt t.start at.span.start) (nat_lt t.start at.span.end) (is_not_less t.start at.span.start s.0) (is_less t.start at.span.end b.0))
    ∙ ap (λ (us : List Token). t ∷ us) (held_first n at ts s.1 b.1 e)

first_exact : (n : ℕ) (ts : List Token) → Rise ts → tokens_over ts (place_over (take n ts)) ≡ take n ts
first_exact zero ts r = none_behind (place_over []) ts (begin_behind zero ts r)
first_exact (suc n) [] r = refl
first_exact (suc n) (t ∷ ts) r =
    held_first (suc n) (place_over (t ∷ take n ts)) (t ∷ ts) (omega arith, each_more (λ u. t.end ≤ u.start) (λ u. t.start ≤ u.start) ts (λ u k. omega (arith, k, r.0)) r.1.0)
    (begin_before (t ∷ take n ts) (rise_take (suc n) (t ∷ ts) r)) (begin_behind (suc n) (t ∷ ts) r)

-- Any part of a text.

out_before : (t : Token) (part : List Token) → t.start < t.end → Each (λ u. t.end ≤ u.start) part → begins_within (place_over part) t ≡ false
out_before t [] h each = out_behind (place_over []) t (omega arith)
out_before t (u ∷ us) h each = first_false (nat_lt t.start u.start) (nat_lt t.start (last_end (u ∷ us))) (is_less t.start u.start (omega (arith, h, each.0)))

take_none : (k : ℕ) → let none : List Token = [] in take k none ≡ none
take_none zero = refl
take_none (suc k) = refl

pub part_exact : (m n : ℕ) (text : List Token) → Rise text → tokens_over text (place_over (take n (drop m text))) ≡ take n (drop m text)
part_exact zero n text r = first_exact n text r
part_exact (suc m) n [] r = sym (take_none n)
part_exact (suc m) n (t ∷ ts) r =
    let part = take n (drop m ts) in
    left_out (place_over part) t ts (out_before t part r.0 (each_take (λ u. t.end ≤ u.start) n (drop m ts) (each_drop (λ u. t.end ≤ u.start) m ts r.1.0))) ∙ part_exact m n ts r.1.1
