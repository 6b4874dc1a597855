-- Which group a bracket closes, and where groups end.
use Rattle.std.proofs.Common.{◌≡◌, ◌↔◌, ℕ, ◌+◌, ◌<◌, ◌≤◌, ◌==◌, ◌⊎◌, inl, inr, Bool, true, false, List, [], ◌∷◌, Option, Some, None, if◌then◌else◌, is_some, option_and_then, unwrap_or, IfSome, IsSomeAnd, length, drop, slice_get, refl, sym, subst, ap, ◌∙◌, arith, length-drop}
use Rattle.std.proofs.lemmas.Bool.{or_cases, or_right, or_left, eqb-true, eq-eqb, cases_lt, cases_Bool}
use Rattle.std.proofs.lemmas.List.{get_or_past}
use Rattle.std.proofs.lemmas.Option.{same_Some, slice_get_within, IfSome_then}
use Rattle.std.proofs.Math.Logic.{⊎_elim}
use Rattle.std.specs.Prelude.{Contains}
use Rattle.dart_tokens.specs.declared.token.Token.{Token}
use Rattle.dart_tokens.specs.declared.token.Kind.{Kind}
use Rattle.dart_tokens.specs.declared.groups.GroupFaultKind.TheVariants.{UnopenedGroup}
use Rattle.dart_tokens.specs.Groups.{Bracket, Interpolation, Open, GroupEnd, is_same, is_open, opens, closes, closes_group, nearest, behind_closed, after_closing, after_opening, after_token, group_end, end_of, partners_of, fault_at, faults_of}
use Rattle.dart_tokens.specs.Stack.{BeganBefore}
use Rattle.dart_tokens.specs.Pairs.{opens_at, closes_at, partner_at, EndsBehind, IsOpenAt, CanClose, IsNearest, ClosesAround}
use Rattle.dart_tokens.proofs.OpenLemmas.{open_before, is_some-behind_closed}
use Rattle.dart_tokens.proofs.AroundLemmas.{around_before, around_next, BeganBefore-around, drop_one_more, some_at_drop, element_at, partner_here, partner_open}
use Rattle.dart_tokens.proofs.PartnerLemmas.{length-partners_from}
use Rattle.dart_tokens.proofs.FaultLemmas.{opens_none}
use Rattle.dart_tokens.proofs.LawLemmas.{is_same-true, is_same-refl, opens-closes, Opened, Opened-around, nearest_is, nearest_is_latest, ended_or_open, opens_one, end_from}
use Rattle.dart_tokens.proofs.FaultLaws.{unopened}

-- Open groups by the partners of their tokens.

opened_opener : (tokens : List Token) (around : List Open) (k : ℕ) → Opened tokens around → is_open k around ≡ true → is_some (opens_at tokens k) ≡ true
opened_opener tokens [] k each stays = absurd (cc)
opened_opener tokens (group ∷ outer) k each stays = ⊎_elim
    (λ (here : (group.place == k) ≡ true). let at : opens_at tokens k ≡ Some group.bracket = rw (← eqb-true group.place k here) each.0 in rw at refl)
    (λ (there : is_open k outer ≡ true). opened_opener tokens outer k each.1 there)
    (or_cases (group.place == k) (is_open k outer) stays)

open_by_partner : (tokens : List Token) (k place : ℕ) → place ≤ length tokens → IsOpenAt tokens k place → is_open k (around_before place tokens) ≡ true
open_by_partner tokens k place within o = ⊎_elim
    (λ (stays : is_open k (around_before place tokens) ≡ true). stays)
    (λ (ended : (end : ℕ) × (partner_at tokens k ≡ Some end) × (end < place)).
    let late : place ≤ ended.0 = subst (λ (p : Option ℕ). IsSomeAnd p (λ end. place ≤ end)) ended.1 o.until in
    absurd (omega (arith, late, ended.2)))
    (ended_or_open place k tokens within o.before o.opener)

partner_by_open : (tokens : List Token) (k place : ℕ) → place ≤ length tokens → is_open k (around_before place tokens) ≡ true → IsOpenAt tokens k place
partner_by_open tokens k place within stays = record {
  opener = opened_opener tokens (around_before place tokens) k (Opened-around place tokens) stays;
  before = open_before place k (around_before place tokens) (BeganBefore-around place tokens) stays;
  until = subst (λ (p : Option ℕ). IsSomeAnd p (λ end. place ≤ end)) (sym (partner_open place k tokens within stays)) (end_from (drop place tokens) k place (around_before place tokens));
}

-- The nearest open group of a kind, and interpolations.

-- an interpolation that began behind a group is open
record Border (tokens : List Token) (around : List Open) (place : ℕ) : Type 0 where
  border : ℕ
  later : place < border
  stays : is_open border around ≡ true
  kind : opens_at tokens border ≡ Some Interpolation

-- the kind of the innermost group, where it has this place
same_here : (bracket : Bracket) (tokens : List Token) (group : Open) (place : ℕ) → opens_at tokens group.place ≡ Some group.bracket → (group.place == place) ≡ true → opens_at tokens place ≡ Some bracket → is_same bracket group.bracket ≡ true
same_here bracket tokens group place each here kind =
    let at : group.place ≡ place = eqb-true group.place place here in
    let kinds : bracket ≡ group.bracket = same_Some bracket group.bracket (sym kind ∙ rw (← at) each) in
    rw (← kinds) (is_same-refl bracket)

border_before : (bracket : Bracket) (tokens : List Token) (around : List Open) (other behind : ℕ) → BeganBefore behind around → Opened tokens around → nearest bracket around ≡ None →
    is_open other around ≡ true → opens_at tokens other ≡ Some bracket → Border tokens around other
border_before bracket tokens [] other behind began each e stays kind = absurd (cc)
border_before bracket tokens (group ∷ outer) other behind began each e stays kind =
    found (is_same bracket group.bracket) (is_same Interpolation group.bracket) refl refl (λ h k. border_before bracket tokens outer other group.place began.1 each.1 h k kind) e
    (or_cases (group.place == other) (is_open other outer) stays)
  where
    found : (same border : Bool) → is_same bracket group.bracket ≡ same → is_same Interpolation group.bracket ≡ border → (nearest bracket outer ≡ None → is_open other outer ≡ true → Border tokens outer other) →
        (if same then Some group.place else (if border then None else nearest bracket outer)) ≡ None → ((group.place == other) ≡ true) ⊎ (is_open other outer ≡ true) → Border tokens (group ∷ outer) other
    found true border s b more h where_is = absurd (cc)
    found false border s b more h (inl here) = let t : true ≡ false = sym (same_here bracket tokens group other each.0 here kind) ∙ s in absurd (cc)
    found false true s b more h (inr there) = record {
      border = group.place;
      later = open_before group.place other outer began.1 there;
      stays = or_left (group.place == group.place) (is_open group.place outer) (eq-eqb group.place group.place refl);
      kind = each.0 ∙ ap (λ (x : Bracket). Some x) (sym (is_same-true Interpolation group.bracket b));
    }
    found false false s b more h (inr there) =
        let m = more h there in record { border = m.border; later = m.later; stays = or_right (group.place == m.border) (is_open m.border outer) m.stays; kind = m.kind }

no_border : (bracket : Bracket) (tokens : List Token) (around : List Open) (place border behind : ℕ) → BeganBefore behind around → Opened tokens around → nearest bracket around ≡ Some place →
    place < border → is_open border around ≡ true → opens_at tokens border ≡ Some Interpolation → ⊥
no_border bracket tokens [] place border behind began each e later stays kind = absurd (cc)
no_border bracket tokens (group ∷ outer) place border behind began each e later stays kind =
    found (is_same bracket group.bracket) (is_same Interpolation group.bracket) refl (λ h k. no_border bracket tokens outer place border group.place began.1 each.1 h later k kind) e
    (or_cases (group.place == border) (is_open border outer) stays)
  where
    found : (same edge : Bool) → is_same Interpolation group.bracket ≡ edge → (nearest bracket outer ≡ Some place → is_open border outer ≡ true → ⊥) →
        (if same then Some group.place else (if edge then None else nearest bracket outer)) ≡ Some place → ((group.place == border) ≡ true) ⊎ (is_open border outer ≡ true) → ⊥
    found true edge b more h (inl here) = omega (arith, later, eqb-true group.place border here, same_Some group.place place h)
    found true edge b more h (inr there) = omega (arith, later, open_before group.place border outer began.1 there, same_Some group.place place h)
    found false true b more h where_is = absurd (cc)
    found false false b more h (inl here) = let t : true ≡ false = sym (same_here Interpolation tokens group border each.0 here kind) ∙ b in absurd (cc)
    found false false b more h (inr there) = more h there

-- What a bracket closes.

-- a token that closes groups of a kind
record Closer (tokens : List Token) (place : ℕ) : Type 0 where
  bracket : Bracket
  within : place ≤ length tokens
  kind : closes_at tokens place ≡ Some bracket
  partner : partner_at tokens place ≡ nearest bracket (around_before place tokens)

closer : (tokens : List Token) (place : ℕ) → is_some (closes_at tokens place) ≡ true → Closer tokens place
closer tokens place some = token_is (slice_get tokens place) refl some
  where
    closing_is : (token : Token) → slice_get tokens place ≡ Some token → (closing : Option Bracket) → closes token.kind ≡ closing → is_some closing ≡ true → Closer tokens place
    closing_is token at None e s = absurd (cc)
    closing_is token at (Some bracket) e s =
        let none : opens token.kind ≡ None = opens-closes token.kind (rw e refl) in
        record { bracket = bracket; within = omega (arith, slice_get_within tokens place token at); kind = rw at e; partner = partner_here place tokens token at ∙ rw (none, e) refl }

    token_is : (o : Option Token) → slice_get tokens place ≡ o → is_some (option_and_then (λ token. closes token.kind) o) ≡ true → Closer tokens place
    token_is None e s = absurd (cc)
    token_is (Some token) e s = closing_is token e (closes token.kind) refl s

nearest_by_partner : (tokens : List Token) (closing opening : ℕ) → (c : Closer tokens closing) → partner_at tokens closing ≡ Some opening → IsNearest tokens closing opening
nearest_by_partner tokens closing opening c partner =
    let around : List Open = around_before closing tokens in
    let began = BeganBefore-around closing tokens in
    let each = Opened-around closing tokens in
    let found : nearest c.bracket around ≡ Some opening = sym c.partner ∙ partner in
    let is = nearest_is c.bracket tokens around opening closing began each found in
    record {
      can = record {
        kind = is.kind ∙ sym c.kind;
        stays = partner_by_open tokens opening closing c.within is.stays;
        inside = λ border later kind o. no_border c.bracket tokens around opening border closing began each found later (open_by_partner tokens border closing c.within o) kind;
      };
      last = λ other can. nearest_is_latest c.bracket tokens around opening other closing began each found (open_by_partner tokens other closing c.within can.stays) (can.kind ∙ c.kind);
    }

-- what can be closed is found
can_close_none : (tokens : List Token) (closing opening : ℕ) → (c : Closer tokens closing) → partner_at tokens closing ≡ None → CanClose tokens closing opening → ⊥
can_close_none tokens closing opening c none can =
    let around : List Open = around_before closing tokens in
    let b = border_before c.bracket tokens around opening closing (BeganBefore-around closing tokens) (Opened-around closing tokens) (sym c.partner ∙ none)
    (open_by_partner tokens opening closing c.within can.stays) (can.kind ∙ c.kind) in
    can.inside b.border b.later b.kind (partner_by_open tokens b.border closing c.within b.stays)

pub closes_nearest : (tokens : List Token) (closing opening : ℕ) → is_some (closes_at tokens closing) ≡ true → (partner_at tokens closing ≡ Some opening) ↔ IsNearest tokens closing opening
closes_nearest tokens closing opening some = (nearest_by_partner tokens closing opening c, λ is. partner_is is (partner_at tokens closing) refl)
  where
    c : Closer tokens closing
    c = closer tokens closing some

    partner_is : IsNearest tokens closing opening → (p : Option ℕ) → partner_at tokens closing ≡ p → partner_at tokens closing ≡ Some opening
    partner_is is None e = absurd (can_close_none tokens closing opening c e is.can)
    partner_is is (Some place) e =
        let other = nearest_by_partner tokens closing place c e in
        let same : place ≡ opening = omega (arith, is.last place other.can, other.last opening is.can) in
        e ∙ ap (λ (n : ℕ). Some n) same

-- a bracket that can close no group
abbrev ClosesNothing : List Token → ℕ → Type 0
ClosesNothing tokens closing = (is_some (closes_at tokens closing) ≡ true) × ((opening : ℕ) → CanClose tokens closing opening → ⊥)

pub closes_nothing : (tokens : List Token) (closing : ℕ) → Contains (faults_of tokens) (fault_at closing UnopenedGroup) ↔ ClosesNothing tokens closing
closes_nothing tokens closing = (to, from)
  where
    to : Contains (faults_of tokens) (fault_at closing UnopenedGroup) → ClosesNothing tokens closing
    to has = let u = (unopened tokens closing).0 has in (u.0, λ opening can. can_close_none tokens closing opening (closer tokens closing u.0) u.1 can)

    none_is : ClosesNothing tokens closing → (p : Option ℕ) → partner_at tokens closing ≡ p → partner_at tokens closing ≡ None
    none_is h None e = e
    none_is h (Some opening) e = absurd (h.1 opening (nearest_by_partner tokens closing opening (closer tokens closing h.0) e).can)

    from : ClosesNothing tokens closing → Contains (faults_of tokens) (fault_at closing UnopenedGroup)
    from h = (unopened tokens closing).1 (h.0, none_is h (partner_at tokens closing) refl)

-- Where groups end.

nearest_before : (bracket : Bracket) (around : List Open) (behind : ℕ) → BeganBefore behind around → IfSome (nearest bracket around) (λ place. place < behind)
nearest_before bracket [] behind began = tt
nearest_before bracket (group ∷ outer) behind began =
    found (is_same bracket group.bracket) (is_same Interpolation group.bracket) (IfSome_then (nearest bracket outer) (nearest_before bracket outer group.place began.1) (λ place less. omega (arith, less, began.0)))
  where
    found : (same border : Bool) → IfSome (nearest bracket outer) (λ place. place < behind) → IfSome (if same then Some group.place else (if border then None else nearest bracket outer)) (λ place. place < behind)
    found true border more = began.0
    found false true more = tt
    found false false more = more

-- the token that ends a group closes one that began no later
abbrev ClosesOuter : Bracket → (k : ℕ) → List Open → Type 0
ClosesOuter bracket k around = IfSome (behind_closed bracket around) (λ after. is_open k after ≡ false → IsSomeAnd (nearest bracket around) (λ place. place ≤ k))

closes_outer : (bracket : Bracket) (around : List Open) (k behind : ℕ) → BeganBefore behind around → is_open k around ≡ true → ClosesOuter bracket k around
closes_outer bracket [] k behind began stays = absurd (cc)
closes_outer bracket (group ∷ outer) k behind began stays =
    found (is_same bracket group.bracket) (is_same Interpolation group.bracket) (λ there. closes_outer bracket outer k group.place began.1 there) (or_cases (group.place == k) (is_open k outer) stays)
  where
    inner : (after : Option (List Open)) (near : Option ℕ) → is_some after ≡ is_some near → IfSome near (λ place. place < group.place) → group.place ≡ k →
        IfSome after (λ x. is_open k x ≡ false → IsSomeAnd near (λ place. place ≤ k))
    inner None near e less same = tt
    inner (Some after) None e less same = absurd (cc)
    inner (Some after) (Some place) e less same = λ _. omega (arith, less, same)

    found : (same border : Bool) → (is_open k outer ≡ true → ClosesOuter bracket k outer) → ((group.place == k) ≡ true) ⊎ (is_open k outer ≡ true) →
        IfSome (if same then Some outer else (if border then None else behind_closed bracket outer)) (λ after. is_open k after ≡ false → IsSomeAnd (if same then Some group.place else (if border then None else nearest bracket outer)) (λ place. place ≤ k))
    found true border more (inl here) = λ _. omega (arith, eqb-true group.place k here)
    found true border more (inr there) = λ gone. let t : true ≡ false = sym there ∙ gone in absurd (cc)
    found false true more where_is = tt
    found false false more (inl here) =
        inner (behind_closed bracket outer) (nearest bracket outer) (is_some-behind_closed bracket outer) (nearest_before bracket outer group.place began.1) (eqb-true group.place k here)
    found false false more (inr there) = more there

some_is : (o : Option ℕ) (k : ℕ) → IsSomeAnd o (λ place. place ≤ k) → (place : ℕ) × (o ≡ Some place) × (place ≤ k)
some_is None k h = absurd h
some_is (Some place) k h = (place, refl, h)

-- a token that ends a group closes that one, or one around it
ends_by : (tokens : List Token) (place k : ℕ) (token : Token) → slice_get tokens place ≡ Some token → is_open k (around_before place tokens) ≡ true →
    is_open k (after_token place token.kind (around_before place tokens)) ≡ false → ClosesAround tokens place k
ends_by tokens place k token at stays gone = opened (opens token.kind) refl (opens_none place token.kind k around stays gone) gone
  where
    around : List Open
    around = around_before place tokens

    behind : (bracket : Bracket) (after : Option (List Open)) → IfSome after (λ x. is_open k x ≡ false → IsSomeAnd (nearest bracket around) (λ p. p ≤ k)) → is_open k (unwrap_or after around) ≡ false → IsSomeAnd (nearest bracket around) (λ p. p ≤ k)
    behind bracket None f e = let h : true ≡ false = sym stays ∙ e in absurd (cc)
    behind bracket (Some after) f e = f e

    closed : (closing : Option Bracket) → closes token.kind ≡ closing → is_open k (after_closing closing around) ≡ false → ClosesAround tokens place k
    closed None is e = let h : true ≡ false = sym stays ∙ e in absurd (cc)
    closed (Some bracket) is e =
        let c : closes_at tokens place ≡ Some bracket = rw at is in
        let none : opens token.kind ≡ None = opens-closes token.kind (rw is refl) in
        let outer = some_is (nearest bracket around) k (behind bracket (behind_closed bracket around) (closes_outer bracket around k place (BeganBefore-around place tokens) stays) e) in
        record { outer = outer.0; order = outer.2; closer = rw c refl; partner = partner_here place tokens token at ∙ rw (none, is) refl ∙ outer.1 }

    opened : (opening : Option Bracket) → opens token.kind ≡ opening → is_some opening ≡ false → is_open k (after_opening place token.kind opening around) ≡ false → ClosesAround tokens place k
    opened None is s e = closed (closes token.kind) refl e
    opened (Some bracket) is s e = absurd (cc)

abbrev EndsAround : List Token → (opening : ℕ) → (end : GroupEnd) → Type 0
EndsAround tokens opening end = ClosesAround tokens end.place opening ⊎ (end.place ≡ length tokens)

ends_around : (rest : List Token) (place k : ℕ) (tokens : List Token) → drop place tokens ≡ rest → place ≤ length tokens → is_open k (around_before place tokens) ≡ true →
    EndsAround tokens k (group_end k place (around_before place tokens) rest)
unfolding group_end
ends_around [] place k tokens e within stays = inr (omega (arith, within, length-drop place tokens, ap length e))
ends_around (token ∷ rest) place k tokens e within stays =
    let around : List Open = around_before place tokens in
    let at = some_at_drop tokens place token rest e in
    let next = around_next place tokens token at in
    ⊎_elim
    (λ (still : is_open k (after_token place token.kind around) ≡ true).
    rw still (rw next at (ends_around rest (place + 1) k tokens (drop_one_more tokens place token rest e) (omega (arith, slice_get_within tokens place token at)) (rw next still))))
    (λ (gone : is_open k (after_token place token.kind around) ≡ false). rw gone (inl (ends_by tokens place k token at stays gone)))
    (cases_Bool (is_open k (after_token place token.kind around)))

end_within : (rest : List Token) (k place : ℕ) (around : List Open) → (group_end k place around rest).place ≤ place + length rest
unfolding group_end
end_within [] k place around = omega arith
end_within (token ∷ rest) k place around = either (is_open k (after_token place token.kind around)) (end_within rest k (place + 1) (after_token place token.kind around))
  where
    either : (still : Bool) → (group_end k (place + 1) (after_token place token.kind around) rest).place ≤ (place + 1) + length rest →
        (if still then group_end k (place + 1) (after_token place token.kind around) rest else record { place = place; closed = closes_group k token.kind around }).place ≤ place + length (token ∷ rest)
    either true h = omega (arith, h)
    either false h = omega arith

pub has_end : (tokens : List Token) (opening : ℕ) → is_some (opens_at tokens opening) ≡ true → IsSomeAnd (partner_at tokens opening) (EndsBehind tokens opening)
has_end tokens opening opener =
    let one = opens_one tokens opening opener in
    let rest : List Token = drop (opening + 1) tokens in
    let around : List Open = around_before (opening + 1) tokens in
    let within : opening + 1 ≤ length tokens = omega (arith, one.within) in
    subst (λ (p : Option ℕ). IsSomeAnd p (EndsBehind tokens opening)) (sym (partner_open (opening + 1) opening tokens within one.stays))
    (record { behind = omega (arith, end_from rest opening (opening + 1) around); within = omega (arith, end_within rest opening (opening + 1) around, length-drop (opening + 1) tokens, within) })

pub has_reason : (tokens : List Token) (opening end : ℕ) → is_some (opens_at tokens opening) ≡ true → partner_at tokens opening ≡ Some end → ClosesAround tokens end opening ⊎ (end ≡ length tokens)
has_reason tokens opening end opener at =
    let one = opens_one tokens opening opener in
    let within : opening + 1 ≤ length tokens = omega (arith, one.within) in
    let end_is = same_Some end _ (sym at ∙ partner_open (opening + 1) opening tokens within one.stays) in
    subst (λ (n : ℕ). ClosesAround tokens n opening ⊎ (n ≡ length tokens)) (sym end_is) (ends_around (drop (opening + 1) tokens) (opening + 1) opening tokens refl within one.stays)

pub has_none : (tokens : List Token) (place : ℕ) → opens_at tokens place ≡ None → closes_at tokens place ≡ None → partner_at tokens place ≡ None
has_none tokens place opening closing = ⊎_elim
    (λ (inside : place < length tokens).
    let t = element_at tokens place inside in
    let o : opens t.0.kind ≡ None = rw t.1 at opening in
    let c : closes t.0.kind ≡ None = rw t.1 at closing in
    partner_here place tokens t.0 t.1 ∙ rw (o, c) refl)
    (λ (past : length tokens ≤ place). get_or_past (partners_of tokens) place None (omega (arith, past, length-partners_from 0 [] tokens)))
    (cases_lt place (length tokens))
