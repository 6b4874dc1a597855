-- Where a group ends, by its place and by the number of groups around it.
use Rattle.std.proofs.Common.{◌≡◌, ℕ, ◌+◌, ◌<◌, ◌≤◌, ◌==◌, nat_lt, Bool, true, false, ◌⊎◌, inr, List, [], ◌∷◌, length, if◌then◌else◌, Option, Some, None, unwrap_or, refl, sym, subst, ◌∙◌, arith}
use Rattle.std.specs.Option.{option_map_or}
use Rattle.std.proofs.lemmas.Bool.{eq-eqb, ne_eqb, eqb-true, or_cases, or_right, lt-ltb, le-ltb, ltb-true, false_from_ne_true}
use Rattle.std.proofs.Math.Logic.{⊎_elim}
use Rattle.dart_tokens.specs.declared.token.Kind.{Kind}
use Rattle.dart_tokens.specs.Groups.{Bracket, Interpolation, Open, is_same, is_open, opens, closes, nearest, behind_closed, after_closing, after_opening, after_token, closes_group}
use Rattle.dart_tokens.specs.Stack.{BeganBefore}

-- the group that began at a place is open, with so many around it
abbrev pub StandsAt : (place depth : ℕ) → List Open → Type 0
StandsAt place depth [] = ⊥
StandsAt place depth (group ∷ outer) = ((group.place ≡ place) × (length outer ≡ depth)) ⊎ StandsAt place depth outer

pub BeganBefore-later : (place later : ℕ) (around : List Open) → place ≤ later → BeganBefore place around → BeganBefore later around
BeganBefore-later place later [] h began = tt
BeganBefore-later place later (group ∷ outer) h began = (omega (arith, h, began.0), began.1)

open_before : (place k : ℕ) (around : List Open) → BeganBefore place around → is_open k around ≡ true → k < place
open_before place k [] began stays = absurd (cc)
open_before place k (group ∷ outer) began stays =
    ⊎_elim (λ e. let same = eqb-true group.place k e in omega (arith, same, began.0)) (λ e. let less = open_before group.place k outer began.1 e in omega (arith, less, began.0))
    (or_cases (group.place == k) (is_open k outer) stays)

none_open : (place k : ℕ) (around : List Open) → BeganBefore place around → place ≤ k → is_open k around ≡ false
none_open place k around began late = false_from_ne_true (is_open k around) (λ e. let less = open_before place k around began e in omega (arith, less, late))

-- what is known of a group that stands at a place
pub stands_deep : (place depth : ℕ) (around : List Open) → StandsAt place depth around → depth < length around
stands_deep place depth [] s = absurd s
stands_deep place depth (group ∷ outer) s = ⊎_elim (λ h. omega (arith, h.1)) (λ h. let d : depth < length outer = stands_deep place depth outer h in omega (arith, d)) s

stands_open : (place depth : ℕ) (around : List Open) → StandsAt place depth around → is_open place around ≡ true
stands_open place depth [] s = absurd s
stands_open place depth (group ∷ outer) s =
    ⊎_elim (λ h. let e : (group.place == place) ≡ true = eq-eqb group.place place h.0 in rw e refl) (λ h. or_right (group.place == place) (is_open place outer) (stands_open place depth outer h)) s

stands_before : (at place depth : ℕ) (around : List Open) → BeganBefore at around → StandsAt place depth around → place < at
stands_before at place depth around began s = open_before at place around began (stands_open place depth around s)

-- what a token leaves of a group that is open, whether it closes that one or not
pub record Turn (place depth : ℕ) (after : List Open) (closing : Bool) : Type 0 where
  pub still : is_open place after ≡ nat_lt depth (length after)
  pub stands : nat_lt depth (length after) ≡ true → StandsAt place depth after
  pub ends : nat_lt depth (length after) ≡ false → closing ≡ (length after == depth)

-- it stays open
stays : (place depth : ℕ) (after : List Open) (closing : Bool) → StandsAt place depth after → Turn place depth after closing
stays place depth after closing s =
    let deep : nat_lt depth (length after) ≡ true = lt-ltb depth (length after) (stands_deep place depth after s) in
    record { still = stands_open place depth after s ∙ sym deep; stands = λ _. s; ends = λ e. absurd (cc) }

-- what is left when a group is closed
pub record Left (place : ℕ) (around after : List Open) (closed : Option ℕ) : Type 0 where
  pub fewer : length after < length around
  pub began : BeganBefore place after
  pub before : option_map_or (λ p. nat_lt p place) closed true ≡ true

pub left : (bracket : Bracket) (place : ℕ) (around after : List Open) → BeganBefore place around → behind_closed bracket around ≡ Some after → Left place around after (nearest bracket around)
left bracket place [] after began e = absurd (cc)
left bracket place (group ∷ outer) after began e =
    by (is_same bracket group.bracket) (is_same Interpolation group.bracket) (λ h. left bracket place outer after (BeganBefore-later group.place place outer (omega (arith, began.0)) began.1) h) e
  where
    by : (found border : Bool) → (behind_closed bracket outer ≡ Some after → Left place outer after (nearest bracket outer)) →
        (if found then Some outer else (if border then None else behind_closed bracket outer)) ≡ Some after →
        Left place (group ∷ outer) after (if found then Some group.place else (if border then None else nearest bracket outer))
    by true border more h =
        let same : outer ≡ after = cc in
        subst (λ (x : List Open). Left place (group ∷ outer) x (Some group.place)) same
        (record { fewer = omega arith; began = BeganBefore-later group.place place outer (omega (arith, began.0)) began.1; before = lt-ltb group.place place began.0 })
    by false true more h = absurd (cc)
    by false false more h = let rest = more h in record { fewer = let f : length after < length outer = rest.fewer in omega (arith, f); began = rest.began; before = rest.before }

other_place : (place : ℕ) (closed : Option ℕ) → option_map_or (λ p. nat_lt p place) closed true ≡ true → option_map_or (λ p. p == place) closed false ≡ false
other_place place None h = refl
other_place place (Some p) h = let less : p < place = ltb-true p place h in ne_eqb p place (λ e. omega (arith, less, e))

-- a bracket closes a group: this one, one inside it, or one around it
closed_turn : (bracket : Bracket) (at place depth : ℕ) (around after : List Open) → BeganBefore at around → StandsAt place depth around → behind_closed bracket around ≡ Some after →
    Turn place depth after (option_map_or (λ p. p == place) (nearest bracket around) false)
closed_turn bracket at place depth [] after began s e = absurd s
closed_turn bracket at place depth (group ∷ outer) after began s e =
    by (is_same bracket group.bracket) (is_same Interpolation group.bracket) s
    (λ h. left bracket group.place outer after began.1 h) (λ h t. closed_turn bracket group.place place depth outer after began.1 t h) e
  where
    ended : (closed : Option ℕ) → (group.place ≡ place) × (length outer ≡ depth) → Left group.place outer after closed → Turn place depth after (option_map_or (λ p. p == place) closed false)
    ended closed h l =
        let fewer : length after < length outer = l.fewer in
        let shallow : nat_lt depth (length after) ≡ false = le-ltb depth (length after) (omega (arith, h.1, fewer)) in
        let gone : is_open place after ≡ false = none_open group.place place after l.began (omega (arith, h.0)) in
        let other : (length after == depth) ≡ false = ne_eqb (length after) depth (λ (q : length after ≡ depth). omega (arith, q, h.1, fewer)) in
        let before : option_map_or (λ p. nat_lt p place) closed true ≡ true = subst (λ (n : ℕ). option_map_or (λ p. nat_lt p n) closed true ≡ true) h.0 l.before in
        record { still = gone ∙ sym shallow; stands = λ d. absurd (cc); ends = λ _. other_place place closed before ∙ sym other }

    here : (group.place ≡ place) × (length outer ≡ depth) → Turn place depth outer (group.place == place)
    here h =
        let shallow : nat_lt depth (length outer) ≡ false = le-ltb depth (length outer) (omega (arith, h.1)) in
        let gone : is_open place outer ≡ false = none_open group.place place outer began.1 (omega (arith, h.0)) in
        record { still = gone ∙ sym shallow; stands = λ d. absurd (cc); ends = λ _. eq-eqb group.place place h.0 ∙ sym (eq-eqb (length outer) depth h.1) }

    by : (found border : Bool) → ((group.place ≡ place) × (length outer ≡ depth)) ⊎ StandsAt place depth outer →
        (behind_closed bracket outer ≡ Some after → Left group.place outer after (nearest bracket outer)) →
        (behind_closed bracket outer ≡ Some after → StandsAt place depth outer → Turn place depth after (option_map_or (λ p. p == place) (nearest bracket outer) false)) →
        (if found then Some outer else (if border then None else behind_closed bracket outer)) ≡ Some after →
        Turn place depth after (option_map_or (λ p. p == place) (if found then Some group.place else (if border then None else nearest bracket outer)) false)
    by true border t l more h =
        let same : outer ≡ after = cc in
        subst (λ (x : List Open). Turn place depth x (group.place == place)) same (⊎_elim (λ w. here w) (λ w. stays place depth outer (group.place == place) w) t)
    by false true t l more h = absurd (cc)
    by false false t l more h = ⊎_elim (λ w. ended (nearest bracket outer) w (l h)) (λ w. more h w) t

closing_turn : (closing : Option Bracket) (at place depth : ℕ) (around : List Open) → BeganBefore at around → StandsAt place depth around →
    Turn place depth (after_closing closing around) (option_map_or (λ bracket. option_map_or (λ p. p == place) (nearest bracket around) false) closing false)
closing_turn None at place depth around began s = stays place depth around false s
closing_turn (Some bracket) at place depth around began s = by (behind_closed bracket around) refl
  where
    by : (o : Option (List Open)) → behind_closed bracket around ≡ o → Turn place depth (unwrap_or o around) (option_map_or (λ p. p == place) (nearest bracket around) false)
    by None e = stays place depth around _ s
    by (Some after) e = closed_turn bracket at place depth around after began s e

opening_turn : (opening : Option Bracket) (at : ℕ) (kind : Kind) (place depth : ℕ) (around : List Open) → BeganBefore at around → StandsAt place depth around →
    Turn place depth (after_opening at kind opening around) (closes_group place kind around)
opening_turn None at kind place depth around began s = closing_turn (closes kind) at place depth around began s
opening_turn (Some bracket) at kind place depth around began s = stays place depth _ _ (inr s)

-- what a token leaves of a group that is open
pub token_turn : (at : ℕ) (kind : Kind) (place depth : ℕ) (around : List Open) → BeganBefore at around → StandsAt place depth around → Turn place depth (after_token at kind around) (closes_group place kind around)
token_turn at kind place depth around began s = opening_turn (opens kind) at kind place depth around began s

BeganBefore-closing : (closing : Option Bracket) (place : ℕ) (around : List Open) → BeganBefore place around → BeganBefore place (after_closing closing around)
BeganBefore-closing None place around began = began
BeganBefore-closing (Some bracket) place around began = by (behind_closed bracket around) refl
  where
    by : (o : Option (List Open)) → behind_closed bracket around ≡ o → BeganBefore place (unwrap_or o around)
    by None e = began
    by (Some after) e = (left bracket place around after began e).began

-- behind a token the open groups began before or at it
pub BeganBefore-token : (place : ℕ) (kind : Kind) (around : List Open) → BeganBefore place around → BeganBefore (place + 1) (after_token place kind around)
BeganBefore-token place kind around began = by (opens kind)
  where
    by : (opening : Option Bracket) → BeganBefore (place + 1) (after_opening place kind opening around)
    by None = BeganBefore-later place (place + 1) (after_closing (closes kind) around) (omega arith) (BeganBefore-closing (closes kind) place around began)
    by (Some bracket) = (omega arith, began)
