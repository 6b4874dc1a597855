-- What the grammar reads, without places.
use Rattle.std.proofs.Common.{◌≡◌, ℕ, zero, suc, ◌+◌, ◌-◌, ◌<◌, ◌≤◌, ◌==◌, nat_lt, Bool, true, false, inl, List, [], ◌∷◌, length, take, drop, slice_get, if◌then◌else◌, Option, Some, None, is_some, refl, sym, ap, ◌∙◌, arith}
use Rattle.std.specs.Option.{option_map_or, option_and_then}
use Rattle.std.proofs.lemmas.Bool.{lt-ltb}
use Rattle.std.proofs.lemmas.List.{drop-drop}
use Rattle.dart_tokens.specs.declared.token.Kind.{Kind}
use Rattle.dart_tokens.specs.declared.token.Token.{Token}
use Rattle.dart_tokens.specs.Groups.{Bracket, Open, GroupEnd, is_open, opens, closes, nearest, after_opening, after_token, closes_group, group_end, end_of, partner_of, partners_from, partners_of}
use Rattle.dart_tokens.specs.Stack.{BeganBefore}
use Rattle.dart_tokens.specs.Read.{kept, kept_before, is_unopened, is_closed_by, ungrouped, token_of, tokens_from, grammar_tokens}
use Rattle.grouping.specs.Ahead.{kinds_of, kinds_opened, kinds_after, width_ahead, is_closed_ahead, is_left_out, sized_token, read_ahead}
use Rattle.grouping.proofs.KindLemmas.{kinds_token, length_token, length-kinds, unopened_kinds}
use Rattle.grouping.proofs.EndLemmas.{StandsAt, Turn, token_turn, stands_deep, BeganBefore-token}

-- a token is the partner of the one that opens a group
abbrev pub is_back : (place : ℕ) → Option (Option ℕ) → Bool
is_back place partner = option_map_or (λ p. option_map_or (λ b. b == place) p false) partner false

-- a token that closes a group and opens none has its opener as partner
closing_partner : (place : ℕ) (closing : Option Bracket) (around : List Open) →
    option_map_or (λ b. b == place) (option_and_then (λ bracket. nearest bracket around) closing) false
    ≡ option_map_or (λ bracket. option_map_or (λ p. p == place) (nearest bracket around) false) closing false
closing_partner place None around = refl
closing_partner place (Some bracket) around = refl

partner_closes : (at place : ℕ) (kind : Kind) (around : List Open) (ts : List Token) → is_some (opens kind) ≡ false →
    is_back place (Some (partner_of at kind around ts)) ≡ closes_group place kind around
partner_closes at place kind around ts e = rw e (closing_partner place (closes kind) around)

-- a token behind which fewer groups are open opens none
opens_none : (kind : Kind) (depth : ℕ) (around : List Bracket) → depth < length around → nat_lt depth (length (kinds_after kind around)) ≡ false → is_some (opens kind) ≡ false
opens_none kind depth around deep = by (opens kind)
  where
    by : (opening : Option Bracket) → nat_lt depth (length (kinds_opened kind opening around)) ≡ false → is_some opening ≡ false
    by None e = refl
    by (Some bracket) e = let more : nat_lt depth (suc (length around)) ≡ true = lt-ltb depth (suc (length around)) (omega (arith, deep)) in absurd (cc)

-- where the group ends that began at a place, with so many around it
pub record EndAhead (place depth at : ℕ) (around : List Open) (ts : List Token) (end : GroupEnd) (ps : List (Option ℕ)) : Type 0 where
  pub later : at ≤ end.place
  pub width : kept (take (end.place - at) ts) (take (end.place - at) ps) ≡ width_ahead depth (kinds_of around) ts
  pub closed : end.closed ≡ is_closed_ahead depth (kinds_of around) ts
  pub back : is_back place (slice_get ps (end.place - at)) ≡ is_closed_ahead depth (kinds_of around) ts

-- one token further
end_later : (place depth at : ℕ) (around after : List Open) (t : Token) (p : Option ℕ) (ts : List Token) (end : GroupEnd) (ps : List (Option ℕ)) →
    kinds_of after ≡ kinds_after t.kind (kinds_of around) → nat_lt depth (length (kinds_after t.kind (kinds_of around))) ≡ true →
    is_unopened t.kind p ≡ is_left_out t.kind (kinds_of around) →
    EndAhead place depth (at + 1) after ts end ps → EndAhead place depth at around (t ∷ ts) end (p ∷ ps)
end_later place depth at around after t p ts end ps kinds deep unopened rest =
    let later : at + 1 ≤ end.place = rest.later in
    let n : ℕ = end.place - (at + 1) in
    let d : end.place - at ≡ suc n = omega (arith, later) in
    let width : kept (take n ts) (take n ps) ≡ width_ahead depth (kinds_after t.kind (kinds_of around)) ts
    = rest.width ∙ ap (λ (ks : List Bracket). width_ahead depth ks ts) kinds in
    let closed : is_closed_ahead depth (kinds_of after) ts ≡ is_closed_ahead depth (kinds_of around) (t ∷ ts)
    = ap (λ (ks : List Bracket). is_closed_ahead depth ks ts) kinds ∙ rw deep refl in
    record {
      later = omega (arith, later);
      width = rw (d, deep, unopened, width) refl;
      closed = rest.closed ∙ closed;
      back = rw d (rest.back ∙ closed);
    }

-- at this token
end_now : (place depth at : ℕ) (around : List Open) (t : Token) (p : Option ℕ) (ts : List Token) (ps : List (Option ℕ)) (closing : Bool) →
    nat_lt depth (length (kinds_after t.kind (kinds_of around))) ≡ false → closing ≡ (length (kinds_after t.kind (kinds_of around)) == depth) →
    is_back place (Some p) ≡ closing →
    EndAhead place depth at around (t ∷ ts) (record { place = at; closed = closing }) (p ∷ ps)
end_now place depth at around t p ts ps closing shallow ends back =
    let d : at - at ≡ 0 = omega arith in
    record {
      later = omega arith;
      width = rw (d, shallow) refl;
      closed = rw shallow ends;
      back = rw (d, shallow) (back ∙ ends);
    }

-- behind all tokens
end_none : (place depth at : ℕ) (around : List Open) → EndAhead place depth at around [] (record { place = at; closed = false }) []
end_none place depth at around = let d : at - at ≡ 0 = omega arith in record { later = omega arith; width = rw d refl; closed = refl; back = refl }

ends_ahead : (place depth at : ℕ) (around : List Open) (ts : List Token) → BeganBefore at around → StandsAt place depth around →
    EndAhead place depth at around ts (group_end place at around ts) (partners_from at around ts)
unfolding group_end partners_from
ends_ahead place depth at around [] began s = end_none place depth at around
ends_ahead place depth at around (t ∷ ts) began s =
    let after : List Open = after_token at t.kind around in
    let turn : Turn place depth after (closes_group place t.kind around) = token_turn at t.kind place depth around began s in
    by (is_open place after) refl turn
    (λ stands. ends_ahead place depth (at + 1) (after_token at t.kind around) ts (BeganBefore-token at t.kind around began) stands)
  where
    by : (b : Bool) → is_open place (after_token at t.kind around) ≡ b → Turn place depth (after_token at t.kind around) (closes_group place t.kind around) →
        (StandsAt place depth (after_token at t.kind around) →
        EndAhead place depth (at + 1) (after_token at t.kind around) ts (group_end place (at + 1) (after_token at t.kind around) ts) (partners_from (at + 1) (after_token at t.kind around) ts)) →
        EndAhead place depth at around (t ∷ ts)
        (if b then group_end place (at + 1) (after_token at t.kind around) ts else record { place = at; closed = closes_group place t.kind around })
        (partner_of at t.kind around ts ∷ partners_from (at + 1) (after_token at t.kind around) ts)
    by true is_is turn rest =
        let after : List Open = after_token at t.kind around in
        let deep : nat_lt depth (length after) ≡ true = sym turn.still ∙ is_is in
        end_later place depth at around after t _ ts _ _ (kinds_token at t.kind around)
        (ap (λ (n : ℕ). nat_lt depth n) (length_token at t.kind around) ∙ deep) (unopened_kinds at t.kind around ts) (rest (turn.stands deep))
    by false is_is turn rest =
        let after : List Open = after_token at t.kind around in
        let shallow : nat_lt depth (length after) ≡ false = sym turn.still ∙ is_is in
        let shallow_kinds : nat_lt depth (length (kinds_after t.kind (kinds_of around))) ≡ false = ap (λ (n : ℕ). nat_lt depth n) (length_token at t.kind around) ∙ shallow in
        let deep : depth < length around = stands_deep place depth around s in
        let none : is_some (opens t.kind) ≡ false = opens_none t.kind depth (kinds_of around) (let e = length-kinds around in omega (arith, e, deep)) shallow_kinds in
        end_now place depth at around t _ ts _ (closes_group place t.kind around) shallow_kinds
        (turn.ends shallow ∙ ap (λ (n : ℕ). n == depth) (sym (length_token at t.kind around))) (partner_closes at place t.kind around ts none)

-- the end of the group that a token opens
pub end_of_opened : (place : ℕ) (kind : Kind) (around : List Open) (ts : List Token) → BeganBefore place around → is_some (opens kind) ≡ true →
    EndAhead place (length around) (place + 1) (after_token place kind around) ts (end_of place kind around ts) (partners_from (place + 1) (after_token place kind around) ts)
end_of_opened place kind around ts began e =
    ends_ahead place (length around) (place + 1) (after_token place kind around) ts (BeganBefore-token place kind around began) (by (opens kind) e)
  where
    by : (opening : Option Bracket) → is_some opening ≡ true → StandsAt place (length around) (after_opening place kind opening around)
    by None h = absurd (cc)
    by (Some bracket) h = inl (refl, refl)

get_drop : {A : Type 0} (n : ℕ) (xs : List A) (i : ℕ) → slice_get (drop n xs) i ≡ slice_get xs (n + i)
get_drop {A = A} zero xs i = let e : 0 + i ≡ i = omega arith in ap (λ (k : ℕ). slice_get xs k) (sym e)
get_drop (suc n) [] i = refl
get_drop (suc n) (x ∷ xs) i = let e : suc n + i ≡ suc (n + i) = omega arith in rw e (get_drop n xs i)

ungrouped_token : (all : List (Option ℕ)) (place : ℕ) (p : Option ℕ) (t : Token) (ts : List Token) (ps : List (Option ℕ)) → is_some (opens t.kind) ≡ false → token_of all place p t ts ps ≡ ungrouped t
ungrouped_token all place None t ts ps e = refl
ungrouped_token all place (Some partner) t ts ps e = rw e refl

-- a token that the grammar reads
read_token : (all : List (Option ℕ)) (place : ℕ) (around : List Open) (t : Token) (ts : List Token) → BeganBefore place around →
    drop (place + 1) all ≡ partners_from (place + 1) (after_token place t.kind around) ts →
    token_of all place (partner_of place t.kind around ts) t ts (partners_from (place + 1) (after_token place t.kind around) ts) ≡ sized_token t (kinds_of around) ts
read_token all place around t ts began behind = by (is_some (opens t.kind)) refl
  where
    by : (b : Bool) → is_some (opens t.kind) ≡ b →
        token_of all place (partner_of place t.kind around ts) t ts (partners_from (place + 1) (after_token place t.kind around) ts) ≡ sized_token t (kinds_of around) ts
    by false e = ungrouped_token all place (partner_of place t.kind around ts) t ts _ e ∙ rw e refl
    by true e =
        let end : GroupEnd = end_of place t.kind around ts in
        let ps : List (Option ℕ) = partners_from (place + 1) (after_token place t.kind around) ts in
        let ahead : EndAhead place (length around) (place + 1) (after_token place t.kind around) ts end ps = end_of_opened place t.kind around ts began e in
        let later : place + 1 ≤ end.place = ahead.later in
        let one : suc place ≡ place + 1 = omega arith in
        let there : place + 1 + (end.place - (place + 1)) ≡ end.place = omega (arith, later) in
        let kinds : kinds_of (after_token place t.kind around) ≡ kinds_after t.kind (kinds_of around) = kinds_token place t.kind around in
        let depth : length around ≡ length (kinds_of around) = sym (length-kinds around) in
        let width : kept_before place end.place ts ps ≡ width_ahead (length (kinds_of around)) (kinds_after t.kind (kinds_of around)) ts
        = ap (λ (n : ℕ). kept (take (end.place - n) ts) (take (end.place - n) ps)) one ∙ ahead.width
        ∙ ap (λ (ks : List Bracket). width_ahead (length around) ks ts) kinds ∙ ap (λ (n : ℕ). width_ahead n (kinds_after t.kind (kinds_of around)) ts) depth in
        let closed : is_closed_by all end.place place ≡ is_closed_ahead (length (kinds_of around)) (kinds_after t.kind (kinds_of around)) ts
        = ap (λ (n : ℕ). is_back place (slice_get all n)) (sym there) ∙ ap (is_back place) (sym (get_drop (place + 1) all (end.place - (place + 1))))
        ∙ ap (λ (qs : List (Option ℕ)). is_back place (slice_get qs (end.place - (place + 1)))) behind ∙ ahead.back
        ∙ ap (λ (ks : List Bracket). is_closed_ahead (length around) ks ts) kinds ∙ ap (λ (n : ℕ). is_closed_ahead n (kinds_after t.kind (kinds_of around)) ts) depth in
        rw (e, width, closed, e) refl

one_more : {A : Type 0} (xs : List A) (n : ℕ) (y : A) (ys : List A) → drop n xs ≡ y ∷ ys → drop (n + 1) xs ≡ ys
one_more {A = A} xs n y ys e = sym (drop-drop 1 n xs) ∙ ap (λ (zs : List A). drop 1 zs) e

-- the tokens from a place on
reads_from : (all : List (Option ℕ)) (place : ℕ) (around : List Open) (ts : List Token) → BeganBefore place around → drop place all ≡ partners_from place around ts →
    tokens_from all place ts (partners_from place around ts) ≡ read_ahead (kinds_of around) ts
unfolding partners_from
reads_from all place around [] began behind = refl
reads_from all place around (t ∷ ts) began behind =
    let after : List Open = after_token place t.kind around in
    let ps : List (Option ℕ) = partners_from (place + 1) after ts in
    let p : Option ℕ = partner_of place t.kind around ts in
    let one : suc place ≡ place + 1 = omega arith in
    let next : drop (place + 1) all ≡ ps = one_more all place p ps behind in
    let rest : tokens_from all (suc place) ts ps ≡ read_ahead (kinds_after t.kind (kinds_of around)) ts
    = ap (λ (n : ℕ). tokens_from all n ts ps) one ∙ reads_from all (place + 1) after ts (BeganBefore-token place t.kind around began) next
    ∙ ap (λ (ks : List Bracket). read_ahead ks ts) (kinds_token place t.kind around) in
    rw (unopened_kinds place t.kind around ts, read_token all place around t ts began next, rest) refl

-- what the grammar reads of the tokens of a text
pub grammar_read : (ts : List Token) → grammar_tokens ts ≡ read_ahead [] ts
grammar_read ts = reads_from (partners_of ts) 0 [] ts tt refl
