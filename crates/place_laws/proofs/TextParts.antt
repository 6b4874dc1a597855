-- Parts of a text whose tokens rise: they stand from their first to their last token, and no others begin there.
use Rattle.std.proofs.Common.{◌≡◌, ℕ, zero, suc, ◌-◌, ◌<◌, ◌≤◌, ◌++◌, Bool, true, false, not, ◌&&◌, List, [], ◌∷◌, length, take, drop, nat_lt, slice_get, refl, ap, sym, ◌∙◌, subst, arith, append-nil}
use Rattle.std.specs.List.{filter}
use Rattle.std.specs.Option.{option_map_or}
use Rattle.std.proofs.lemmas.Bool.Decides.{nat_tests}
use Rattle.std.proofs.lemmas.List.{append_assoc, length-append, take-append-drop}
use Rattle.std.proofs.lemmas.List.Elements.{filter-append}
use Rattle.std.proofs.Math.Seq.{take-append_seam}
use Rattle.readings.specs.Readings.{tokens_read}
use Rattle.readings.specs.Leading.{Each}
use Rattle.readings.specs.Lists.{each_implies}
use Rattle.dart_tree.specs.declared.places.Place.{Place}
use Rattle.dart_tokens.specs.declared.grouped_token.GroupedToken.{GroupedToken as Token}
use Rattle.grammar.specs.Tokens.{last_end, place_over, past}
use Rattle.grammar.specs.Whole.{begins_within, tokens_over}
use Rattle.node_counts.specs.Rising.{Rise, HoldGroups}

-- each begins at an offset or behind it
abbrev pub Begin : ℕ → List Token → Type 0
Begin from ts = Each (λ t. from ≤ t.start) ts

-- where the last of these tokens ends, or an offset where there are none
abbrev pub reach : ℕ → List Token → ℕ
reach from [] = from
reach from (t ∷ ts) = reach t.end ts

pub reach-append : (from : ℕ) (ts us : List Token) → reach from (ts ++ us) ≡ reach (reach from ts) us
reach-append from [] us = refl
reach-append from (t ∷ ts) us = reach-append t.end ts us

pub each_front : (P : Token → Type 0) (ts us : List Token) → Each P (ts ++ us) → Each P ts
each_front P [] us h = tt
each_front P (t ∷ ts) us h = (h.0, each_front P ts us h.1)

pub each_back : (P : Token → Type 0) (ts us : List Token) → Each P (ts ++ us) → Each P us
each_back P [] us h = h
each_back P (t ∷ ts) us h = each_back P ts us h.1

rise_front : (ts us : List Token) → Rise (ts ++ us) → Rise ts
rise_front [] us r = tt
rise_front (t ∷ ts) us r = (r.0, (each_front (λ u. t.end ≤ u.start) ts us r.1.0, rise_front ts us r.1.1))

rise_back : (ts us : List Token) → Rise (ts ++ us) → Rise us
rise_back [] us r = r
rise_back (t ∷ ts) us r = rise_back ts us r.1.1

pub reach_from : (from : ℕ) (ts : List Token) → Rise ts → Begin from ts → from ≤ reach from ts
reach_from from [] r b = omega arith
reach_from from (t ∷ ts) r b = omega (arith, r.0, b.0, reach_from t.end ts r.1.1 r.1.0)

-- what stands behind the first tokens begins where the last of them ends, or behind it
pub begin_behind : (from : ℕ) (ts us : List Token) → Rise (ts ++ us) → Begin from (ts ++ us) → Begin (reach from ts) us
begin_behind from [] us r b = b
begin_behind from (t ∷ ts) us r b = begin_behind t.end ts us r.1.1 r.1.0

-- fewer tokens reach no farther
pub reach_less : (from n m : ℕ) (ts : List Token) → n ≤ m → Rise ts → Begin from ts → reach from (take n ts) ≤ reach from (take m ts)
reach_less from zero zero ts h r b = omega arith
reach_less from zero (suc m) [] h r b = omega arith
reach_less from zero (suc m) (t ∷ ts) h r b = omega (arith, b.0, r.0, reach_less t.end zero m ts (omega arith) r.1.1 r.1.0)
reach_less from (suc n) zero ts h r b = absurd (omega (arith, h))
reach_less from (suc n) (suc m) [] h r b = omega arith
reach_less from (suc n) (suc m) (t ∷ ts) h r b = reach_less t.end n m ts (omega (arith, h)) r.1.1 r.1.0

last_behind : (t u : Token) (us : List Token) → last_end (t ∷ u ∷ us) ≡ last_end (u ∷ us)
last_behind t u us =
    ap (λ (n : ℕ). option_map_or (λ t. t.end) (slice_get (t ∷ u ∷ us) n) 0) (more (length us))
    ∙ sym (ap (λ (n : ℕ). option_map_or (λ t. t.end) (slice_get (u ∷ us) n) 0) (less (length us))) where
      more : (k : ℕ) → suc (suc k) - 1 ≡ suc k
      more k = omega arith

      less : (k : ℕ) → suc k - 1 ≡ k
      less k = omega arith

pub last_reach : (t : Token) (ts : List Token) → last_end (t ∷ ts) ≡ reach t.end ts
last_reach t [] = refl
last_reach t (u ∷ us) = last_behind t u us ∙ last_reach u us

-- the first of tokens that rise begins before all others
pub begin_first : (t : Token) (ts : List Token) → Rise (t ∷ ts) → Begin t.start (t ∷ ts)
begin_first t ts r = (omega arith, each_implies (λ (u : Token). t.end ≤ u.start) (λ (u : Token). t.start ≤ u.start) (λ u h. omega (arith, h, r.0)) ts r.1.0)

-- Parts of a text.

-- some of the tokens of a text in a row
pub record PartOf (text part : List Token) : Type 0 where
  pub front : List Token
  pub back : List Token
  pub is : text ≡ front ++ (part ++ back)

pub part_whole : (text : List Token) → PartOf text text
part_whole text = record { front = []; back = []; is = sym (append-nil text) }

pub part_front : (text ts us : List Token) → PartOf text (ts ++ us) → PartOf text ts
part_front text ts us p = record { front = p.front; back = us ++ p.back; is = p.is ∙ ap (λ (vs : List Token). p.front ++ vs) (append_assoc ts us p.back) }

pub part_back : (text ts us : List Token) → PartOf text (ts ++ us) → PartOf text us
part_back text ts us p = record {
  front = p.front ++ ts;
  back = p.back;
  is = p.is ∙ ap (λ (vs : List Token). p.front ++ vs) (append_assoc ts us p.back) ∙ sym (append_assoc p.front ts (us ++ p.back));
}

pub part_take : (text : List Token) (n : ℕ) (ts : List Token) → PartOf text ts → PartOf text (take n ts)
part_take text n ts p = part_front text (take n ts) (drop n ts) (subst (λ (us : List Token). PartOf text us) (sym (take-append-drop n ts)) p)

pub part_rise : (text ts : List Token) → Rise text → PartOf text ts → Rise ts
part_rise text ts r p = rise_front ts p.back (rise_back p.front (ts ++ p.back) (subst Rise p.is r))

pub part_hold : (text ts : List Token) → HoldGroups text → PartOf text ts → HoldGroups ts
part_hold text ts h p =
    each_front (λ t. t.width ≤ past t) ts p.back (each_back (λ t. t.width ≤ past t) p.front (ts ++ p.back) (subst HoldGroups p.is h))

-- what was read
pub taken : (ts read rest : List Token) → ts ≡ read ++ rest → tokens_read ts rest ≡ read
taken ts read rest e =
    let less : length (read ++ rest) - length rest ≡ length read = omega (arith, length-append read rest) in
    ap (λ (us : List Token). tokens_read us rest) e ∙ ap (λ (n : ℕ). take n (read ++ rest)) less ∙ take-append_seam read rest

-- What stands at the place of a part: that part.

none_of : (f : Token → Bool) (ts : List Token) → Each (λ t. f t ≡ false) ts → filter f ts ≡ []
none_of f [] h = refl
none_of f (t ∷ ts) h = rw h.0 (none_of f ts h.1)

all_of : (f : Token → Bool) (ts : List Token) → Each (λ t. f t ≡ true) ts → filter f ts ≡ ts
all_of f [] h = refl
all_of f (t ∷ ts) h = rw h.0 (ap (λ (us : List Token). t ∷ us) (all_of f ts h.1))

both_false : (a b : Bool) → b ≡ false → (a && b) ≡ false
both_false true b e = e
both_false false b e = refl

first_false : (a b : Bool) → a ≡ true → (not a && b) ≡ false
first_false true b e = refl
first_false false b e = absurd (cc)

both_true : (a b : Bool) → a ≡ false → b ≡ true → (not a && b) ≡ true
both_true true b e d = absurd (cc)
both_true false b e d = d

is_less : (a b : ℕ) → a < b → nat_lt a b ≡ true
is_less a b h = grind (arith, nat_tests)

is_not_less : (a b : ℕ) → b ≤ a → nat_lt a b ≡ false
is_not_less a b h = grind (arith, nat_tests)

out_behind : (at : Place) (t : Token) → at.span.end ≤ t.start → begins_within at t ≡ false
out_behind at t h = both_false (not (nat_lt t.start at.span.start)) (nat_lt t.start at.span.end) (is_not_less t.start at.span.end h)

out_before : (at : Place) (t : Token) → t.start < at.span.start → begins_within at t ≡ false
out_before at t h = first_false (nat_lt t.start at.span.start) (nat_lt t.start at.span.end) (is_less t.start at.span.start h)

in_place : (at : Place) (t : Token) → at.span.start ≤ t.start → t.start < at.span.end → begins_within at t ≡ true
in_place at t h k =
    both_true (nat_lt t.start at.span.start) (nat_lt t.start at.span.end) (is_not_less t.start at.span.start h) (is_less t.start at.span.end k)

before_part : (ts : List Token) (u : Token) (us : List Token) → Rise (ts ++ u ∷ us) → Each (λ t. t.start < u.start) ts
before_part [] u us r = tt
before_part (t ∷ ts) u us r = (omega (arith, r.0, (each_back (λ v. t.end ≤ v.start) ts (u ∷ us) r.1.0).0), before_part ts u us r.1.1)

-- each begins before the last of them ends
begin_before : (t : Token) (ts : List Token) → Rise (t ∷ ts) → Each (λ u. u.start < reach t.end ts) (t ∷ ts)
begin_before t [] r = (r.0, tt)
begin_before t (u ∷ us) r = let rest = begin_before u us r.1.1 in (omega (arith, r.0, r.1.0.0, rest.0), rest)

each_both : (P Q R : Token → Type 0) → ((t : Token) → P t → Q t → R t) → (ts : List Token) → Each P ts → Each Q ts → Each R ts
each_both P Q R f [] h k = tt
each_both P Q R f (t ∷ ts) h k = (f t h.0 k.0, each_both P Q R f ts h.1 k.1)

each_any : (P : Token → Type 0) → ((t : Token) → P t) → (ts : List Token) → Each P ts
each_any P f [] = tt
each_any P f (t ∷ ts) = (f t, each_any P f ts)

some_exact : (front : List Token) (u : Token) (us back : List Token) → Rise (front ++ ((u ∷ us) ++ back)) → (at : Place) → at.span.start ≡ u.start → at.span.end ≡ reach u.end us →
    filter (begins_within at) (front ++ ((u ∷ us) ++ back)) ≡ u ∷ us
some_exact front u us back r at s e =
    let behind : Rise ((u ∷ us) ++ back) = rise_back front ((u ∷ us) ++ back) r in
    let inside : Rise (u ∷ us) = rise_front (u ∷ us) back behind in
    let one : filter (begins_within at) front ≡ [] =
    none_of (begins_within at) front (each_implies (λ (t : Token). t.start < u.start) (λ (t : Token). begins_within at t ≡ false) (λ t h. out_before at t (omega (arith, h, s))) front (before_part front u (us ++ back) r)) in
    let two : filter (begins_within at) (u ∷ us) ≡ u ∷ us =
    all_of (begins_within at) (u ∷ us)
    (each_both (λ t. u.start ≤ t.start) (λ t. t.start < reach u.end us) (λ t. begins_within at t ≡ true) (λ t h k. in_place at t (omega (arith, h, s)) (omega (arith, k, e))) (u ∷ us)
    (begin_first u us inside) (begin_before u us inside)) in
    let three : filter (begins_within at) back ≡ [] =
    none_of (begins_within at) back
    (each_implies (λ (t : Token). reach u.end us ≤ t.start) (λ (t : Token). begins_within at t ≡ false) (λ t h. out_behind at t (omega (arith, h, e))) back
    (begin_behind u.end us back behind.1.1 behind.1.0)) in
    filter-append (begins_within at) front ((u ∷ us) ++ back)
    ∙ ap (λ (ts : List Token). ts ++ filter (begins_within at) ((u ∷ us) ++ back)) one
    ∙ filter-append (begins_within at) (u ∷ us) back
    ∙ ap (λ (ts : List Token). ts ++ filter (begins_within at) back) two
    ∙ ap (λ (ts : List Token). (u ∷ us) ++ ts) three ∙ append-nil (u ∷ us)

pub part_exact : (text part : List Token) → Rise text → PartOf text part → tokens_over text (place_over part) ≡ part
part_exact text [] r p = none_of (begins_within (place_over [])) text (each_any (λ t. begins_within (place_over []) t ≡ false) (λ t. out_behind (place_over []) t (omega arith)) text)
part_exact text (u ∷ us) r p =
    ap (λ (ts : List Token). filter (begins_within (place_over (u ∷ us))) ts) p.is
    ∙ some_exact p.front u us p.back (subst Rise p.is r) (place_over (u ∷ us)) refl (last_reach u us)
