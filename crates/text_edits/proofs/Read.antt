-- What the grammar reads of a text is found from the kinds of its open groups.
use Rattle.std.proofs.Common.{◌≡◌, ℕ, zero, suc, ◌+◌, ◌-◌, ◌≤◌, ◌<◌, ◌==◌, Bool, true, false, not, ◌&&◌, ◌||◌, nat_lt, List, [], ◌∷◌, Option, Some, None, is_some, unwrap_or, option_and_then, length, map, take, drop, slice_get, if◌then◌else◌, refl, sym, ap, ◌∙◌, subst, arith}
use Rattle.std.specs.Option.{option_map_or}
use Rattle.std.proofs.lemmas.Bool.Decides.{nat_tests}
use Rattle.std.proofs.lemmas.List.{length-map}
use Rattle.dart_tokens.specs.declared.token.Kind.{Kind}
use Rattle.dart_tokens.specs.declared.token.Token.{Token as TextToken}
use Rattle.dart_tokens.specs.Kinds.{Sort, PlainName, GrammarName, AsynchronousName, BuiltInName, BuiltInType, ReservedWord, Number, StringPart, Opening, Closing, Mark, sort_of, opened_by, closed_by}
use Rattle.dart_tokens.specs.Groups.{Bracket, Interpolation, Open, opens, closes, is_same, nearest, behind_closed, after_closing, after_opening, after_token, is_open, closes_group, group_end, partner_of, partners_from, partners_of}
use Rattle.dart_tokens.specs.declared.grouped_token.GroupedToken.{GroupedToken as Token}
use Rattle.grammar.specs.Tokens.{is_unopened, kept, kept_before, is_closed_by, grouped, ungrouped, token_of, tokens_from, grammar_tokens}
use Rattle.text_edits.specs.Brackets.{kinds_closed, kinds_after_closing, kinds_after_opening, kinds_after, falls_below}
use Rattle.text_edits.proofs.Windows.{is_lost_by, is_lost, size, is_ended, read_by, read_in, window, level, above_is, below_is, is_above}

abbrev pub brackets : List Open → List Bracket
brackets around = map (λ o. o.bracket) around

-- The kinds of open groups.

closed_same : (b : Bracket) (around otherwise : List Open) → brackets (unwrap_or (behind_closed b around) otherwise) ≡ unwrap_or (kinds_closed b (brackets around)) (brackets otherwise)
closed_same b [] otherwise = refl
closed_same b (o ∷ around) otherwise = by (is_same b o.bracket) (is_same Interpolation o.bracket) (closed_same b around otherwise)
  where
    by : (found border : Bool) → brackets (unwrap_or (behind_closed b around) otherwise) ≡ unwrap_or (kinds_closed b (brackets around)) (brackets otherwise) →
        brackets (unwrap_or (if found then Some around else (if border then None else behind_closed b around)) otherwise) ≡ unwrap_or (if found then Some (brackets around) else (if border then None else kinds_closed b (brackets around))) (brackets otherwise)
    by true border r = refl
    by false true r = refl
    by false false r = r

closing_same : (c : Option Bracket) (around : List Open) → brackets (after_closing c around) ≡ kinds_after_closing c (brackets around)
closing_same None around = refl
closing_same (Some b) around = closed_same b around around

after_same : (place : ℕ) (k : Kind) (around : List Open) → brackets (after_token place k around) ≡ kinds_after k (brackets around)
after_same place k around = by (opens k)
  where
    by : (o : Option Bracket) → brackets (after_opening place k o around) ≡ kinds_after_opening o (closes k) (brackets around)
    by None = closing_same (closes k) around
    by (Some b) = refl

found_same : (b : Bracket) (around : List Open) → is_some (nearest b around) ≡ is_some (kinds_closed b (brackets around))
found_same b [] = refl
found_same b (o ∷ around) = by (is_same b o.bracket) (is_same Interpolation o.bracket) (found_same b around)
  where
    by : (found border : Bool) → is_some (nearest b around) ≡ is_some (kinds_closed b (brackets around)) →
        is_some (if found then Some o.place else (if border then None else nearest b around)) ≡ is_some (if found then Some (brackets around) else (if border then None else kinds_closed b (brackets around)))
    by true border r = refl
    by false true r = refl
    by false false r = r

unopened_sort : (s : Sort) (around : List Open) (e : ℕ) → (is_some (closed_by s) && not (is_some (if is_some (opened_by s) then Some e else option_and_then (λ b. nearest b around) (closed_by s)))) ≡ is_lost_by (closed_by s) (brackets around)
unopened_sort PlainName around e = refl
unopened_sort GrammarName around e = refl
unopened_sort AsynchronousName around e = refl
unopened_sort BuiltInName around e = refl
unopened_sort BuiltInType around e = refl
unopened_sort ReservedWord around e = refl
unopened_sort Number around e = refl
unopened_sort StringPart around e = refl
unopened_sort (Opening b) around e = refl
unopened_sort (Closing b) around e = ap not (found_same b around)
unopened_sort Mark around e = refl

-- a token that closes no group
lost_same : (place : ℕ) (k : Kind) (around : List Open) (ts : List TextToken) → is_unopened k (partner_of place k around ts) ≡ is_lost k (brackets around)
lost_same place k around ts = unopened_sort (sort_of k) around (group_end place (place + 1) (after_token place k around) ts).place

size_same : (around : List Open) → length (brackets around) ≡ length around
size_same around = length-map around (λ o. o.bracket)

-- Of the open groups, those that began first are as many as are open where one began, and this is the last of them.

abbrev Fits : (place least : ℕ) → List Open → Type 0
Fits place least [] = 0 < least
Fits place least (o ∷ around) = (is_open place (o ∷ around) ≡ not (nat_lt (suc (length around)) least)) × (((o.place == place) ≡ (suc (length around) == least)) × Fits place least around)

fits_down : (place least : ℕ) (o : Open) (around : List Open) → Fits place least (o ∷ around) → Fits place least around
fits_down place least o around f = f.1.1

fits_open : (place least : ℕ) (around : List Open) → Fits place least around → is_open place around ≡ not (nat_lt (length around) least)
fits_open place least [] f = none (nat_lt 0 least) refl
  where
    none : (b : Bool) → nat_lt 0 least ≡ b → false ≡ not b
    none true e = refl
    none false e = absurd (omega (arith, f, above_is 0 least e))
fits_open place least (o ∷ around) f = f.0

second : (a b : Bool) → a ≡ false → (a || b) ≡ b
second true b e = absurd (cc)
second false b e = refl

fits_up : (place least at : ℕ) (b : Bracket) (around : List Open) → place < at → least ≤ length around → Fits place least around → Fits place least (record { bracket = b; place = at } ∷ around)
fits_up place least at b around h g f =
    let differ : (at == place) ≡ false = grind (arith, nat_tests) in
    let more : (suc (length around) == least) ≡ false = grind (arith, nat_tests) in
    let here : nat_lt (length around) least ≡ false = is_above (length around) least g in
    let above : nat_lt (suc (length around)) least ≡ false = is_above (suc (length around)) least (omega (arith, g)) in (
      second (at == place) (is_open place around) differ ∙ fits_open place least around f ∙ ap not (here ∙ sym above),
      (differ ∙ sym more, f),
    )

pick : {A : Type 0} (P : A → Type 0) (found border : Bool) (here otherwise : A) (rest : Option A) → P here → P otherwise → P (unwrap_or rest otherwise) → P (unwrap_or (if found then Some here else (if border then None else rest)) otherwise)
pick P true border here otherwise rest p q r = p
pick P false true here otherwise rest p q r = q
pick P false false here otherwise rest p q r = r

closed_keeps : (P : List Open → Type 0) → ((o : Open) (os : List Open) → P (o ∷ os) → P os) → (b : Bracket) (around otherwise : List Open) → P around → P otherwise → P (unwrap_or (behind_closed b around) otherwise)
closed_keeps P down b [] otherwise p q = q
closed_keeps P down b (o ∷ around) otherwise p q =
    pick P (is_same b o.bracket) (is_same Interpolation o.bracket) around otherwise (behind_closed b around) (down o around p) q (closed_keeps P down b around otherwise (down o around p) q)

after_keeps : (P : List Open → Type 0) → ((o : Open) (os : List Open) → P (o ∷ os) → P os) → (at : ℕ) (k : Kind) (around : List Open) → P around → ((b : Bracket) → P (record { bracket = b; place = at } ∷ around)) → P (after_token at k around)
after_keeps P down at k around p up = by (opens k) (closes k)
  where
    closing : (c : Option Bracket) → P (after_closing c around)
    closing None = p
    closing (Some b) = closed_keeps P down b around around p p

    by : (o c : Option Bracket) → P (after_opening at k o around)
    by None c = closing (closes k)
    by (Some b) c = up b

fits_after : (place least at : ℕ) (k : Kind) (around : List Open) → place < at → least ≤ length around → Fits place least around → Fits place least (after_token at k around)
fits_after place least at k around h g f = after_keeps (Fits place least) (fits_down place least) at k around f (λ b. fits_up place least at b around h g f)

-- how many tokens come before the end of a group
abbrev steps : (least : ℕ) → List Bracket → List TextToken → ℕ
steps least around [] = 0
steps least around (t ∷ ts) = if falls_below least t.kind around then 0 else suc (steps least (kinds_after t.kind around) ts)

after_length : (at : ℕ) (k : Kind) (around : List Open) → length (after_token at k around) ≡ length (kinds_after k (brackets around))
after_length at k around = sym (size_same (after_token at k around)) ∙ ap (λ (bs : List Bracket). length bs) (after_same at k around)

open_test : (place least at : ℕ) (k : Kind) (around : List Open) → place < at → least ≤ length around → Fits place least around → is_open place (after_token at k around) ≡ not (falls_below least k (brackets around))
open_test place least at k around h g f =
    fits_open place least (after_token at k around) (fits_after place least at k around h g f) ∙ ap (λ (n : ℕ). not (nat_lt n least)) (after_length at k around)

after_above : (least at : ℕ) (k : Kind) (around : List Open) → falls_below least k (brackets around) ≡ false → least ≤ length (after_token at k around)
after_above least at k around e = omega (arith, after_length at k around, above_is (length (kinds_after k (brackets around))) least e)

group_steps : (place least at : ℕ) (around : List Open) (ts : List TextToken) → place < at → least ≤ length around → Fits place least around → (group_end place at around ts).place ≡ at + steps least (brackets around) ts
unfolding group_end
group_steps place least at around [] h g f = omega arith
group_steps place least at around (t ∷ ts) h g f =
    by (falls_below least t.kind (brackets around)) refl (open_test place least at t.kind around h g f)
    (λ above. group_steps place least (at + 1) (after_token at t.kind around) ts (omega (arith, h)) above (fits_after place least at t.kind around h g f))
  where
    by : (e : Bool) → falls_below least t.kind (brackets around) ≡ e → is_open place (after_token at t.kind around) ≡ not (falls_below least t.kind (brackets around)) →
        (least ≤ length (after_token at t.kind around) → (group_end place (at + 1) (after_token at t.kind around) ts).place ≡ at + 1 + steps least (brackets (after_token at t.kind around)) ts) →
        (if is_open place (after_token at t.kind around) then group_end place (at + 1) (after_token at t.kind around) ts else record { place = at; closed = closes_group place t.kind around }).place ≡ at + steps least (brackets around) (t ∷ ts)
    by true e o r =
        let shut : is_open place (after_token at t.kind around) ≡ false = o ∙ ap not e in
        rw (shut, e) (omega arith)
    by false e o r =
        let stays : is_open place (after_token at t.kind around) ≡ true = o ∙ ap not e in
        let same : steps least (brackets (after_token at t.kind around)) ts ≡ steps least (kinds_after t.kind (brackets around)) ts = ap (λ (bs : List Bracket). steps least bs ts) (after_same at t.kind around) in
        rw (stays, e) (omega (arith, r (after_above least at t.kind around e), same))

kept_steps : (least at : ℕ) (around : List Open) (ts : List TextToken) → kept (take (steps least (brackets around) ts) ts) (take (steps least (brackets around) ts) (partners_from at around ts)) ≡ size least (brackets around) ts
unfolding partners_from
kept_steps least at around [] = refl
kept_steps least at around (t ∷ ts) = by (falls_below least t.kind (brackets around)) refl (is_lost t.kind (brackets around)) refl (lost_same at t.kind around ts) (kept_steps least (at + 1) (after_token at t.kind around) ts)
  where
    after : List Bracket
    after = kinds_after t.kind (brackets around)

    partners : List (Option ℕ)
    partners = partners_from (at + 1) (after_token at t.kind around) ts

    by : (e : Bool) → falls_below least t.kind (brackets around) ≡ e → (l : Bool) → is_lost t.kind (brackets around) ≡ l → is_unopened t.kind (partner_of at t.kind around ts) ≡ is_lost t.kind (brackets around) →
        kept (take (steps least (brackets (after_token at t.kind around)) ts) ts) (take (steps least (brackets (after_token at t.kind around)) ts) partners) ≡ size least (brackets (after_token at t.kind around)) ts →
        kept (take (steps least (brackets around) (t ∷ ts)) (t ∷ ts)) (take (steps least (brackets around) (t ∷ ts)) (partner_of at t.kind around ts ∷ partners)) ≡ size least (brackets around) (t ∷ ts)
    by true e l x u r = rw e refl
    by false e true x u r =
        let rest : kept (take (steps least after ts) ts) (take (steps least after ts) partners) ≡ size least after ts = subst (λ (bs : List Bracket). kept (take (steps least bs ts) ts) (take (steps least bs ts) partners) ≡ size least bs ts) (after_same at t.kind around) r in
        rw (e, x, u ∙ x) rest
    by false e false x u r =
        let rest : kept (take (steps least after ts) ts) (take (steps least after ts) partners) ≡ size least after ts = subst (λ (bs : List Bracket). kept (take (steps least bs ts) ts) (take (steps least bs ts) partners) ≡ size least bs ts) (after_same at t.kind around) r in
        rw (e, x, u ∙ x) (ap suc rest)

near : (place least : ℕ) (b : Bracket) (around otherwise : List Open) → Fits place least around → least ≤ length otherwise →
    option_map_or (λ p. p == place) (nearest b around) false ≡ (suc (length (unwrap_or (kinds_closed b (brackets around)) (brackets otherwise))) == least)
near place least b [] otherwise f h = let z : length (brackets otherwise) ≡ length otherwise = size_same otherwise in sym (other (suc (length (brackets otherwise))) (omega (arith, z, h)))
  where
    other : (n : ℕ) → least < n → (n == least) ≡ false
    other n g = grind (arith, nat_tests)
near place least b (o ∷ around) otherwise f h = by (is_same b o.bracket) (is_same Interpolation o.bracket) (near place least b around otherwise f.1.1 h)
  where
    z : length (brackets otherwise) ≡ length otherwise
    z = size_same otherwise

    other : (n : ℕ) → least < n → (n == least) ≡ false
    other n g = grind (arith, nat_tests)

    by : (found border : Bool) → option_map_or (λ p. p == place) (nearest b around) false ≡ (suc (length (unwrap_or (kinds_closed b (brackets around)) (brackets otherwise))) == least) →
        option_map_or (λ p. p == place) (if found then Some o.place else (if border then None else nearest b around)) false
        ≡ (suc (length (unwrap_or (if found then Some (brackets around) else (if border then None else kinds_closed b (brackets around))) (brackets otherwise))) == least)
    by true border r = f.1.0 ∙ ap (λ (n : ℕ). suc n == least) (sym (size_same around))
    by false true r = sym (other (suc (length (brackets otherwise))) (omega (arith, z, h)))
    by false false r = r

end_test : (place least : ℕ) (around : List Open) (o c : Option Bracket) (e : ℕ) → nat_lt (length (kinds_after_opening o c (brackets around))) least ≡ true → least ≤ length around → Fits place least around →
    option_map_or (λ p. p == place) (if is_some o then Some e else option_and_then (λ b. nearest b around) c) false ≡ (suc (length (kinds_after_opening o c (brackets around))) == least)
end_test place least around (Some b) c e below h f = absurd (omega (arith, h, below_is (suc (length (brackets around))) least below, size_same around))
end_test place least around None None e below h f = absurd (omega (arith, h, below_is (length (brackets around)) least below, size_same around))
end_test place least around None (Some b) e below h f = near place least b around around f h

-- whether a token closes the group that began at a place
abbrev closes_at : List (Option ℕ) → (place steps : ℕ) → Bool
closes_at partners place n = option_map_or (λ p. option_map_or (λ b. b == place) p false) (slice_get partners n) false

closed_steps : (place least at : ℕ) (around : List Open) (ts : List TextToken) → place < at → least ≤ length around → Fits place least around →
    closes_at (partners_from at around ts) place (steps least (brackets around) ts) ≡ is_ended least (brackets around) ts
unfolding partners_from
closed_steps place least at around [] h g f = refl
closed_steps place least at around (t ∷ ts) h g f =
    by (falls_below least t.kind (brackets around)) refl (λ above. closed_steps place least (at + 1) (after_token at t.kind around) ts (omega (arith, h)) above (fits_after place least at t.kind around h g f))
  where
    after : List Bracket
    after = kinds_after t.kind (brackets around)

    partners : List (Option ℕ)
    partners = partners_from (at + 1) (after_token at t.kind around) ts

    by : (e : Bool) → falls_below least t.kind (brackets around) ≡ e →
        (least ≤ length (after_token at t.kind around) → closes_at partners place (steps least (brackets (after_token at t.kind around)) ts) ≡ is_ended least (brackets (after_token at t.kind around)) ts) →
        closes_at (partner_of at t.kind around ts ∷ partners) place (steps least (brackets around) (t ∷ ts)) ≡ is_ended least (brackets around) (t ∷ ts)
    by true e r =
        let test : option_map_or (λ p. p == place) (partner_of at t.kind around ts) false ≡ (suc (length after) == least) =
        end_test place least around (opens t.kind) (closes t.kind) (group_end at (at + 1) (after_token at t.kind around) ts).place e g f in
        rw e test
    by false e r =
        let rest : closes_at partners place (steps least after ts) ≡ is_ended least after ts =
        subst (λ (bs : List Bracket). closes_at partners place (steps least bs ts) ≡ is_ended least bs ts) (after_same at t.kind around) (r (after_above least at t.kind around e)) in
        rw e rest

-- Groups that began before a place.

abbrev Below : (place : ℕ) → List Open → Type 0
Below place [] = Unit {0}
Below place (o ∷ around) = (o.place < place) × Below place around

below_later : (place later : ℕ) (around : List Open) → place ≤ later → Below place around → Below later around
below_later place later [] h b = tt
below_later place later (o ∷ around) h b = (omega (arith, h, b.0), below_later place later around h b.1)

below_after : (place : ℕ) (k : Kind) (around : List Open) → Below place around → Below (place + 1) (after_token place k around)
below_after place k around b =
    let later : Below (place + 1) around = below_later place (place + 1) around (omega arith) b in after_keeps (Below (place + 1)) (λ o os p. p.1) place k around later (λ c. (omega arith, later))

fits_below : (place least : ℕ) (around : List Open) → Below place around → length around < least → Fits place least around
fits_below place least [] b h = h
fits_below place least (o ∷ around) b h =
    let rest : Fits place least around = fits_below place least around b.1 (omega (arith, h)) in
    let earlier : o.place < place = b.0 in
    let differ : (o.place == place) ≡ false = grind (arith, nat_tests) in
    let fewer : (suc (length around) == least) ≡ false = grind (arith, nat_tests) in
    let here : nat_lt (length around) least ≡ true = grind (arith, nat_tests) in
    let above : nat_lt (suc (length around)) least ≡ true = grind (arith, nat_tests) in (
      second (o.place == place) (is_open place around) differ ∙ fits_open place least around rest ∙ ap not (here ∙ sym above),
      (differ ∙ sym fewer, rest),
    )

fits_first : (place : ℕ) (b : Bracket) (around : List Open) → Below place around → Fits place (suc (length around)) (record { bracket = b; place = place } ∷ around)
fits_first place b around h =
    let same : (place == place) ≡ true = grind (arith, nat_tests) in
    let equal : (suc (length around) == suc (length around)) ≡ true = grind (arith, nat_tests) in
    let above : nat_lt (suc (length around)) (suc (length around)) ≡ false = grind (arith, nat_tests) in (
      first (place == place) (is_open place around) same ∙ sym (ap not above),
      (same ∙ sym equal, fits_below place (suc (length around)) around h (omega arith)),
    )
  where
    first : (a b : Bool) → a ≡ true → (a || b) ≡ true
    first true b e = refl
    first false b e = absurd (cc)

get_behind : (n : ℕ) (all : List (Option ℕ)) (i : ℕ) → slice_get all (n + i) ≡ slice_get (drop n all) i
get_behind zero all i = let e : 0 + i ≡ i = omega arith in ap (λ (m : ℕ). slice_get all m) e
get_behind (suc n) [] i = refl
get_behind (suc n) (p ∷ all) i = let e : suc n + i ≡ suc (n + i) = omega arith in ap (λ (m : ℕ). slice_get (p ∷ all) m) e ∙ get_behind n all i

abbrev token_with : TextToken → (width : ℕ) → (closed : Bool) → Token
token_with t width closed = record { kind = t.kind; is_closed = closed; start = t.start; end = t.end; word = t.word; width = width }

-- a token as the grammar reads it
read_same : (all : List (Option ℕ)) (place : ℕ) (around : List Open) (t : TextToken) (ts : List TextToken) → Below place around → drop (place + 1) all ≡ partners_from (place + 1) (after_token place t.kind around) ts →
    token_of all place (partner_of place t.kind around ts) t ts (partners_from (place + 1) (after_token place t.kind around) ts) ≡ read_in (brackets around) t ts
read_same all place around t ts h d = by (opens t.kind) refl
  where
    partners : List (Option ℕ)
    partners = partners_from (place + 1) (after_token place t.kind around) ts

    plain : (p : Option ℕ) → opens t.kind ≡ None → token_of all place p t ts partners ≡ ungrouped t
    plain None e = refl
    plain (Some x) e = rw e refl

    opening : (b : Bracket) (end : ℕ) → opens t.kind ≡ Some b → end ≡ place + 1 + steps (suc (length (brackets around))) (b ∷ brackets around) ts → grouped all place end t ts partners ≡ read_by (brackets around) (Some b) t ts
    opening b end e at =
        let least : ℕ = suc (length (brackets around)) in
        let opened : List Open = record { bracket = b; place = place } ∷ around in
        let is_opened : after_token place t.kind around ≡ opened = rw e refl in
        let partners_are : partners ≡ partners_from (place + 1) opened ts = ap (λ (os : List Open). partners_from (place + 1) os ts) is_opened in
        let fits : Fits place least opened = subst (λ (n : ℕ). Fits place (suc n) opened) (sym (size_same around)) (fits_first place b around h) in
        let count : end - suc place ≡ steps least (b ∷ brackets around) ts = omega (arith, at) in
        let sized : kept_before place end ts partners ≡ size least (b ∷ brackets around) ts =
        ap (λ (n : ℕ). kept (take n ts) (take n partners)) count ∙ ap (λ (ps : List (Option ℕ)). kept (take (steps least (b ∷ brackets around) ts) ts) (take (steps least (b ∷ brackets around) ts) ps)) partners_are
        ∙ kept_steps least (place + 1) opened ts in
        let found : slice_get all end ≡ slice_get (partners_from (place + 1) opened ts) (steps least (b ∷ brackets around) ts) =
        ap (λ (n : ℕ). slice_get all n) at ∙ get_behind (place + 1) all (steps least (b ∷ brackets around) ts) ∙ ap (λ (ps : List (Option ℕ)). slice_get ps (steps least (b ∷ brackets around) ts)) (d ∙ partners_are) in
        let closing : is_closed_by all end place ≡ is_ended least (b ∷ brackets around) ts =
        ap (λ (o : Option (Option ℕ)). option_map_or (λ p. option_map_or (λ q. q == place) p false) o false) found
        ∙ closed_steps place least (place + 1) opened ts (omega arith) (omega (arith, size_same around)) fits in
        made (kept_before place end ts partners) (size least (b ∷ brackets around) ts) (is_closed_by all end place) (is_ended least (b ∷ brackets around) ts) sized closing
      where
        made : (w x : ℕ) (c d : Bool) → w ≡ x → c ≡ d → token_with t w c ≡ token_with t x d
        made w x c d e f = rw (e, f) refl

    by : (o : Option Bracket) → opens t.kind ≡ o → token_of all place (partner_of place t.kind around ts) t ts partners ≡ read_in (brackets around) t ts
    by None e = plain (partner_of place t.kind around ts) e ∙ rw e refl
    by (Some b) e =
        let least : ℕ = suc (length (brackets around)) in
        let opened : List Open = record { bracket = b; place = place } ∷ around in
        let is_opened : after_token place t.kind around ≡ opened = rw e refl in
        let fits : Fits place least opened = subst (λ (n : ℕ). Fits place (suc n) opened) (sym (size_same around)) (fits_first place b around h) in
        let end : ℕ = (group_end place (place + 1) (after_token place t.kind around) ts).place in
        let at : end ≡ place + 1 + steps least (b ∷ brackets around) ts =
        ap (λ (os : List Open). (group_end place (place + 1) os ts).place) is_opened ∙ group_steps place least (place + 1) opened ts (omega arith) (omega (arith, size_same around)) fits in
        let partner : partner_of place t.kind around ts ≡ Some end = rw e refl in
        let some : is_some (opens t.kind) ≡ true = ap (λ (o : Option Bracket). is_some o) e in
        ap (λ (p : Option ℕ). token_of all place p t ts partners) partner ∙ chosen (is_some (opens t.kind)) (grouped all place end t ts partners) (ungrouped t) some ∙ opening b end e at
        ∙ sym (ap (λ (o : Option Bracket). read_by (brackets around) o t ts) e)
      where
        chosen : (c : Bool) (x y : Token) → c ≡ true → (if c then x else y) ≡ x
        chosen true x y h = refl
        chosen false x y h = absurd (cc)

drop_next : (n : ℕ) (all : List (Option ℕ)) (p : Option ℕ) (ps : List (Option ℕ)) → drop n all ≡ p ∷ ps → drop (n + 1) all ≡ ps
drop_next n all p ps e = let m : n + 1 ≡ suc n = omega arith in ap (λ (x : ℕ). drop x all) m ∙ by n all e
  where
    by : (n : ℕ) (all : List (Option ℕ)) → drop n all ≡ p ∷ ps → drop (suc n) all ≡ ps
    by zero [] e = absurd (cc)
    by zero (q ∷ all) e = cc
    by (suc n) [] e = absurd (cc)
    by (suc n) (q ∷ all) e = by n all e

tokens_level : (all : List (Option ℕ)) (place : ℕ) (around : List Open) (ts : List TextToken) → Below place around → drop place all ≡ partners_from place around ts →
    tokens_from all place ts (partners_from place around ts) ≡ window 0 (brackets around) ts
unfolding partners_from
tokens_level all place around [] h d = refl
tokens_level all place around (t ∷ ts) h d =
    let next : drop (place + 1) all ≡ partners_from (place + 1) (after_token place t.kind around) ts = drop_next place all (partner_of place t.kind around ts) (partners_from (place + 1) (after_token place t.kind around) ts) d in
    by (is_lost t.kind (brackets around)) refl (lost_same place t.kind around ts) (read_same all place around t ts h next) (tokens_level all (place + 1) (after_token place t.kind around) ts (below_after place t.kind around h) next)
  where
    partners : List (Option ℕ)
    partners = partners_from (place + 1) (after_token place t.kind around) ts

    after : List Bracket
    after = kinds_after t.kind (brackets around)

    one : suc place ≡ place + 1
    one = omega arith

    by : (l : Bool) → is_lost t.kind (brackets around) ≡ l → is_unopened t.kind (partner_of place t.kind around ts) ≡ is_lost t.kind (brackets around) →
        token_of all place (partner_of place t.kind around ts) t ts partners ≡ read_in (brackets around) t ts → tokens_from all (place + 1) ts partners ≡ window 0 (brackets (after_token place t.kind around)) ts →
        (if is_unopened t.kind (partner_of place t.kind around ts) then tokens_from all (suc place) ts partners else token_of all place (partner_of place t.kind around ts) t ts partners ∷ tokens_from all (suc place) ts partners)
        ≡ window 0 (brackets around) (t ∷ ts)
    by l x u r s =
        let rest : tokens_from all (suc place) ts partners ≡ window 0 after ts =
        ap (λ (n : ℕ). tokens_from all n ts partners) one ∙ s ∙ ap (λ (bs : List Bracket). window 0 bs ts) (after_same place t.kind around) in
        let above : falls_below 0 t.kind (brackets around) ≡ false = is_above (length after) 0 (omega arith) in
        rw (u, above, r, rest) refl

-- all of a text
pub read_level : (ts : List TextToken) → grammar_tokens ts ≡ level [] ts
read_level ts = tokens_level (partners_of ts) 0 [] ts tt refl
