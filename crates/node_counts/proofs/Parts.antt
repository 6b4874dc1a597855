-- What stands at the place of a part of a text: no more than that part, where tokens rise.
use Rattle.std.proofs.Common.{◌≡◌, ℕ, zero, suc, ◌+◌, ◌-◌, ◌<◌, ◌≤◌, Bool, true, false, not, ◌&&◌, List, [], ◌∷◌, length, take, drop, nat_lt, slice_get, refl, ap, sym, ◌∙◌, subst, arith}
use Rattle.std.proofs.lemmas.Bool.Decides.{nat_tests}
use Rattle.std.specs.Option.{option_map_or}
use Rattle.readings.specs.Leading.{Each}
use Rattle.dart_tree.specs.declared.places.Place.{Place}
use Rattle.dart_tokens.specs.declared.grouped_token.GroupedToken.{GroupedToken as Token}
use Rattle.grammar.specs.Tokens.{last_end, place_over}
use Rattle.grammar.specs.Whole.{begins_within, tokens_over}
use Rattle.node_counts.specs.Rising.{Rise, HoldGroups}
use Rattle.node_counts.proofs.Pays.{worth, Sound, sound_take, sound_drop}

-- a list at a place of the text costs what the tokens there are worth
abbrev pub cost : List Token → Place → ℕ
cost text at = worth (tokens_over text at)

each_drop : (P : Token → Type 0) (n : ℕ) (ts : List Token) → Each P ts → Each P (drop n ts)
each_drop P zero ts h = h
each_drop P (suc n) [] h = h
each_drop P (suc n) (t ∷ ts) h = each_drop P n ts h.1

each_take : (P : Token → Type 0) (n : ℕ) (ts : List Token) → Each P ts → Each P (take n ts)
each_take P zero ts h = tt
each_take P (suc n) [] h = tt
each_take P (suc n) (t ∷ ts) h = (h.0, each_take P n ts h.1)

each_more : (P Q : Token → Type 0) (ts : List Token) → ((t : Token) → P t → Q t) → Each P ts → Each Q ts
each_more P Q [] f h = tt
each_more P Q (t ∷ ts) f h = (f t h.0, each_more P Q ts f h.1)

-- Tests.

both_false : (a b : Bool) → b ≡ false → (a && b) ≡ false
both_false true b e = e
both_false false b e = refl

first_false : (a b : Bool) → a ≡ true → (not a && b) ≡ false
first_false true b e = refl
first_false false b e = absurd (cc)

both_true : (a b : Bool) → a ≡ false → b ≡ true → (not a && b) ≡ true
both_true true b e d = absurd (cc)
both_true false b e d = d

is_less : (a b : ℕ) → a < b → nat_lt a b ≡ true
is_less a b h = grind (arith, nat_tests)

is_not_less : (a b : ℕ) → b ≤ a → nat_lt a b ≡ false
is_not_less a b h = grind (arith, nat_tests)

not_less : (a b : ℕ) → nat_lt a b ≡ false → b ≤ a
not_less a b e = grind (arith, nat_tests)

out_behind : (at : Place) (t : Token) → at.span.end ≤ t.start → begins_within at t ≡ false
out_behind at t h = both_false (not (nat_lt t.start at.span.start)) (nat_lt t.start at.span.end) (is_not_less t.start at.span.end h)

left_out : (at : Place) (t : Token) (ts : List Token) → begins_within at t ≡ false → tokens_over (t ∷ ts) at ≡ tokens_over ts at
left_out at t ts e = rw e refl

held_in : (at : Place) (t : Token) (ts : List Token) → begins_within at t ≡ true → tokens_over (t ∷ ts) at ≡ t ∷ tokens_over ts at
held_in at t ts e = rw e refl

none_behind : (at : Place) (ts : List Token) → Each (λ u. at.span.end ≤ u.start) ts → tokens_over ts at ≡ []
none_behind at [] h = refl
none_behind at (t ∷ ts) h = left_out at t ts (out_behind at t h.0) ∙ none_behind at ts h.1

-- The first tokens of a text.

one_more : (at : Place) (t : Token) (ts : List Token) (b : Bool) → begins_within at t ≡ b → worth (tokens_over (t ∷ ts) at) ≤ 16 + worth (tokens_over ts at)
one_more at t ts true e = subst (λ (us : List Token). worth us ≤ 16 + worth (tokens_over ts at)) (sym (held_in at t ts e)) (omega arith)
one_more at t ts false e = subst (λ (us : List Token). worth us ≤ 16 + worth (tokens_over ts at)) (sym (left_out at t ts e)) (omega arith)

first_cost : (n : ℕ) (at : Place) (ts : List Token) → Each (λ u. at.span.end ≤ u.start) (drop n ts) → worth (tokens_over ts at) ≤ worth (take n ts)
first_cost zero at ts h = subst (λ (us : List Token). worth us ≤ 0) (sym (none_behind at ts h)) (omega arith)
first_cost (suc n) at [] h = omega arith
first_cost (suc n) at (t ∷ ts) h = omega (arith, one_more at t ts (begins_within at t) refl, first_cost n at ts h)

last_behind : (t u : Token) (us : List Token) → last_end (t ∷ u ∷ us) ≡ last_end (u ∷ us)
last_behind t u us =
    ap (λ (n : ℕ). option_map_or (λ t. t.end) (slice_get (t ∷ u ∷ us) n) 0) (more (length us))
    ∙ sym (ap (λ (n : ℕ). option_map_or (λ t. t.end) (slice_get (u ∷ us) n) 0) (less (length us))) where
      more : (k : ℕ) → suc (suc k) - 1 ≡ suc k
      more k = omega arith

      less : (k : ℕ) → suc k - 1 ≡ k
      less k = omega arith

all_behind_none : (ts : List Token) → Each (λ u. last_end [] ≤ u.start) ts
all_behind_none [] = tt
all_behind_none (t ∷ ts) = (omega arith, all_behind_none ts)

-- what stands behind the first tokens begins where the last of them ends, or behind it
begin_behind : (n : ℕ) (ts : List Token) → Rise ts → Each (λ u. last_end (take n ts) ≤ u.start) (drop n ts)
begin_behind zero ts r = all_behind_none ts
begin_behind (suc n) [] r = tt
begin_behind (suc zero) (t ∷ ts) r = r.1.0
begin_behind (suc (suc n)) (t ∷ []) r = tt
begin_behind (suc (suc n)) (t ∷ (u ∷ us)) r =
    subst (λ (e : ℕ). Each (λ v. e ≤ v.start) (drop n us)) (sym (last_behind t u (take n us))) (begin_behind (suc n) (u ∷ us) r.1.1)

-- Any part of a text.

out_before : (t : Token) (part : List Token) → t.start < t.end → Each (λ u. t.end ≤ u.start) part → begins_within (place_over part) t ≡ false
out_before t [] h each = out_behind (place_over []) t (omega arith)
out_before t (u ∷ us) h each = first_false (nat_lt t.start u.start) (nat_lt t.start (last_end (u ∷ us))) (is_less t.start u.start (omega (arith, h, each.0)))

part_cost : (m n : ℕ) (text : List Token) → Rise text → worth (tokens_over text (place_over (take n (drop m text)))) ≤ worth (take n (drop m text))
part_cost zero n text r = first_cost n (place_over (take n text)) text (begin_behind n text r)
part_cost (suc m) n [] r = omega arith
part_cost (suc m) n (t ∷ ts) r =
    let part = take n (drop m ts) in
    subst (λ (us : List Token). worth us ≤ worth part) (sym (left_out (place_over part) t ts (out_before t part r.0 (each_take (λ u. t.end ≤ u.start) n (drop m ts) (each_drop (λ u. t.end ≤ u.start) m ts r.1.0)))))
    (part_cost m n ts r.1.1)

pub text_sound : (text : List Token) → Rise text → HoldGroups text → Sound (cost text) text
text_sound text r h = record { costs = λ m n. part_cost m n text r; held = h }

-- What stands at any place is a part of the text.

first_at : (at : Place) (t : Token) (ts : List Token) → Rise (t ∷ ts) → Each (λ u. at.span.start ≤ u.start) (t ∷ ts) → ((n : ℕ) × (tokens_over ts at ≡ take n ts)) → (b : Bool) → nat_lt t.start at.span.end ≡ b →
    (n : ℕ) × (tokens_over (t ∷ ts) at ≡ take n (t ∷ ts))
first_at at t ts r h more true e =
    (suc more.0, held_in at t ts (both_true (nat_lt t.start at.span.start) (nat_lt t.start at.span.end) (is_not_less t.start at.span.start h.0) e) ∙ ap (λ (us : List Token). t ∷ us) more.1)
first_at at t ts r h more false e =
    let ends : at.span.end ≤ t.start = not_less t.start at.span.end e in
    let behind : Each (λ u. at.span.end ≤ u.start) ts = each_more (λ u. t.end ≤ u.start) (λ u. at.span.end ≤ u.start) ts (λ u k. omega (arith, k, r.0, ends)) r.1.0 in
    (0, none_behind at (t ∷ ts) (ends, behind))

first_part : (at : Place) (ts : List Token) → Rise ts → Each (λ u. at.span.start ≤ u.start) ts → (n : ℕ) × (tokens_over ts at ≡ take n ts)
first_part at [] r h = (0, refl)
first_part at (t ∷ ts) r h = first_at at t ts r h (first_part at ts r.1.1 h.1) (nat_lt t.start at.span.end) refl

part_step : (at : Place) (t : Token) (ts : List Token) → Rise (t ∷ ts) → ((m : ℕ) × ((n : ℕ) × (tokens_over ts at ≡ take n (drop m ts)))) → (b : Bool) → nat_lt t.start at.span.start ≡ b →
    (m : ℕ) × ((n : ℕ) × (tokens_over (t ∷ ts) at ≡ take n (drop m (t ∷ ts))))
part_step at t ts r more true e = (suc more.0, (more.1.0, left_out at t ts (first_false (nat_lt t.start at.span.start) (nat_lt t.start at.span.end) e) ∙ more.1.1))
part_step at t ts r more false e =
    let begins : at.span.start ≤ t.start = not_less t.start at.span.start e in
    (0, first_part at (t ∷ ts) r (begins, each_more (λ u. t.end ≤ u.start) (λ u. at.span.start ≤ u.start) ts (λ u k. omega (arith, k, r.0, begins)) r.1.0))

part_at : (at : Place) (ts : List Token) → Rise ts → (m : ℕ) × ((n : ℕ) × (tokens_over ts at ≡ take n (drop m ts)))
part_at at [] r = (0, (0, refl))
part_at at (t ∷ ts) r = part_step at t ts r (part_at at ts r.1.1) (nat_lt t.start at.span.start) refl

pub place_sound : (text : List Token) → Rise text → HoldGroups text → (at : Place) → Sound (cost text) (tokens_over text at)
place_sound text r h at =
    let p = part_at at text r in
    subst (λ (us : List Token). Sound (cost text) us) (sym p.1.1) (sound_take (cost text) p.1.0 (drop p.0 text) (sound_drop (cost text) p.0 text (text_sound text r h)))
