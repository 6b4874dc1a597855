-- Laws of groups.
use Rattle.std.proofs.Common.{◌≡◌, ℕ, zero, suc, ◌+◌, ◌<◌, ◌≤◌, ◌==◌, ◌⊎◌, inl, inr, Bool, true, false, List, [], ◌∷◌, Option, Some, None, if◌then◌else◌, is_some, option_and_then, unwrap_or, IfSome, IsSomeAnd, length, drop, slice_get, refl, sym, subst, ap, ◌∙◌, arith, add-one, length-drop}
use Rattle.std.proofs.lemmas.Bool.{or_cases, or_right, or_left, eqb-true, eq-eqb, cases_eq, cases_Bool}
use Rattle.std.proofs.lemmas.Option.{same_Some, slice_get_within, IfSome_then}
use Rattle.std.proofs.Math.Logic.{⊎_elim}
use Rattle.dart_tokens.specs.declared.token.Token.{Token}
use Rattle.dart_tokens.specs.declared.token.Kind.{Kind}
use Rattle.dart_tokens.specs.Kinds.{Sort, Closing, sort_of, opened_by, closed_by}
use Rattle.dart_tokens.specs.Groups.{Bracket, Round, Square, Curly, Interpolation, Open, GroupEnd, is_same, is_open, opens, closes, closes_group, nearest, behind_closed, after_closing, after_opening, after_token, group_end}
use Rattle.dart_tokens.specs.Stack.{BeganBefore}
use Rattle.dart_tokens.specs.Pairs.{opens_at, closes_at, partner_at, ArePaired}
use Rattle.dart_tokens.proofs.OpenLemmas.{after_two, unwrapped, open_before, none_open, open_itself, BeganBefore-token}
use Rattle.dart_tokens.proofs.AroundLemmas.{around_before, around_next, either_token, BeganBefore-around, drop_one_more, some_at_drop, element_at, partner_here, partner_open}
use Rattle.dart_tokens.proofs.PartnerLemmas.{ends_here}
use Rattle.dart_tokens.proofs.FaultLemmas.{opens_none}

-- Kinds.

pub is_same-true : (a b : Bracket) → is_same a b ≡ true → a ≡ b
is_same-true Round Round e = refl
is_same-true Square Square e = refl
is_same-true Curly Curly e = refl
is_same-true Interpolation Interpolation e = refl
is_same-true _ _ e = absurd (cc)

pub is_same-refl : (a : Bracket) → is_same a a ≡ true
is_same-refl Round = refl
is_same-refl Square = refl
is_same-refl Curly = refl
is_same-refl Interpolation = refl

-- what closes a group opens none
opened-closed : (sort : Sort) → is_some (closed_by sort) ≡ true → opened_by sort ≡ None
opened-closed (Closing bracket) e = refl
opened-closed _ e = absurd (cc)

pub opens-closes : (kind : Kind) → is_some (closes kind) ≡ true → opens kind ≡ None
opens-closes kind e = opened-closed (sort_of kind) e

-- Open groups and the tokens that opened them.

-- each was opened by a token of its kind
abbrev pub Opened : List Token → List Open → Type 0
Opened tokens [] = Unit {0}
Opened tokens (group ∷ outer) = (opens_at tokens group.place ≡ Some group.bracket) × Opened tokens outer

Opened-closed : (bracket : Bracket) (tokens : List Token) (around : List Open) → Opened tokens around → IfSome (behind_closed bracket around) (Opened tokens)
Opened-closed bracket tokens [] each = tt
Opened-closed bracket tokens (group ∷ outer) each =
    after_two (λ after. IfSome after (Opened tokens)) (is_same bracket group.bracket) (is_same Interpolation group.bracket) (Some outer) (behind_closed bracket outer) (λ _. each.1) tt
    (λ _ _. Opened-closed bracket tokens outer each.1)

Opened-closing : (closing : Option Bracket) (tokens : List Token) (around : List Open) → Opened tokens around → Opened tokens (after_closing closing around)
Opened-closing None tokens around each = each
Opened-closing (Some bracket) tokens around each = unwrapped (Opened tokens) (behind_closed bracket around) around (Opened-closed bracket tokens around each) each

Opened-opening : (place : ℕ) (kind : Kind) (opening : Option Bracket) (tokens : List Token) (around : List Open) → opens_at tokens place ≡ opening → Opened tokens around → Opened tokens (after_opening place kind opening around)
Opened-opening place kind None tokens around at each = Opened-closing (closes kind) tokens around each
Opened-opening place kind (Some bracket) tokens around at each = (at, each)

pub Opened-around : (place : ℕ) (tokens : List Token) → Opened tokens (around_before place tokens)
Opened-around zero tokens = tt
Opened-around (suc place) tokens =
    let before = Opened-around place tokens in
    either_token (Opened tokens) (slice_get tokens place) (λ token. after_token place token.kind (around_before place tokens)) (around_before place tokens)
    (λ token at. Opened-opening place token.kind (opens token.kind) tokens (around_before place tokens) (ap (λ (o : Option Token). option_and_then (λ t. opens t.kind) o) at) before) before

-- The nearest open group of a kind.

pub record IsNearestOpen (bracket : Bracket) (tokens : List Token) (around : List Open) (place : ℕ) : Type 0 where
  pub stays : is_open place around ≡ true
  pub kind : opens_at tokens place ≡ Some bracket
  pub gone : IsSomeAnd (behind_closed bracket around) (λ after. is_open place after ≡ false)

pub nearest_is : (bracket : Bracket) (tokens : List Token) (around : List Open) (place behind : ℕ) → BeganBefore behind around → Opened tokens around → nearest bracket around ≡ Some place → IsNearestOpen bracket tokens around place
nearest_is bracket tokens [] place behind began each e = absurd (cc)
nearest_is bracket tokens (group ∷ outer) place behind began each e =
    found (is_same bracket group.bracket) (is_same Interpolation group.bracket) refl refl (λ h. nearest_is bracket tokens outer place group.place began.1 each.1 h) e
  where
    found : (same border : Bool) → is_same bracket group.bracket ≡ same → is_same Interpolation group.bracket ≡ border → (nearest bracket outer ≡ Some place → IsNearestOpen bracket tokens outer place) →
        (if same then Some group.place else (if border then None else nearest bracket outer)) ≡ Some place → IsNearestOpen bracket tokens (group ∷ outer) place
    found true border s b more h =
        let here : group.place ≡ place = same_Some group.place place h in
        record {
          stays = or_left (group.place == place) (is_open place outer) (eq-eqb group.place place here);
          kind = rw (← here) (each.0 ∙ ap (λ (x : Bracket). Some x) (sym (is_same-true bracket group.bracket s)));
          gone = rw s (none_open group.place place outer began.1 (omega (arith, here)));
        }
    found false true s b more h = absurd (cc)
    found false false s b more h =
        let outer_is = more h in
        record { stays = or_right (group.place == place) (is_open place outer) outer_is.stays; kind = outer_is.kind; gone = rw (s, b) outer_is.gone }

-- none of the kind that is open began later
pub nearest_is_latest : (bracket : Bracket) (tokens : List Token) (around : List Open) (place other behind : ℕ) → BeganBefore behind around → Opened tokens around → nearest bracket around ≡ Some place →
    is_open other around ≡ true → opens_at tokens other ≡ Some bracket → other ≤ place
nearest_is_latest bracket tokens [] place other behind began each e stays kind = absurd (cc)
nearest_is_latest bracket tokens (group ∷ outer) place other behind began each e stays kind =
    found (is_same bracket group.bracket) (is_same Interpolation group.bracket) refl (λ h k. nearest_is_latest bracket tokens outer place other group.place began.1 each.1 h k kind) e
    (or_cases (group.place == other) (is_open other outer) stays)
  where
    found : (same border : Bool) → is_same bracket group.bracket ≡ same → (nearest bracket outer ≡ Some place → is_open other outer ≡ true → other ≤ place) →
        (if same then Some group.place else (if border then None else nearest bracket outer)) ≡ Some place → ((group.place == other) ≡ true) ⊎ (is_open other outer ≡ true) → other ≤ place
    found true border s more h (inl here) = omega (arith, eqb-true group.place other here, same_Some group.place place h)
    found true border s more h (inr there) = omega (arith, open_before group.place other outer began.1 there, same_Some group.place place h)
    found false true s more h where_is = absurd (cc)
    found false false s more h (inl here) =
        let at : group.place ≡ other = eqb-true group.place other here in
        let kinds : bracket ≡ group.bracket = same_Some bracket group.bracket (sym kind ∙ rw (← at) each.0) in
        let same : is_same bracket group.bracket ≡ true = rw (← kinds) (is_same-refl bracket) in
        let h : true ≡ false = sym same ∙ s in absurd (cc)
    found false false s more h (inr there) = more h there

-- What a token that closes a group says.

record Closes (tokens : List Token) (place : ℕ) (opening : ℕ) : Type 0 where
  token : Token
  bracket : Bracket
  at : slice_get tokens place ≡ Some token
  closes_is : closes token.kind ≡ Some bracket
  opens_is : opens token.kind ≡ None
  nearest_is : nearest bracket (around_before place tokens) ≡ Some opening

closes_by : (tokens : List Token) (place opening : ℕ) → is_some (closes_at tokens place) ≡ true → partner_at tokens place ≡ Some opening → Closes tokens place opening
closes_by tokens place opening some partner = token_is (slice_get tokens place) refl some
  where
    closing_is : (token : Token) → slice_get tokens place ≡ Some token → (closing : Option Bracket) → closes token.kind ≡ closing → is_some closing ≡ true → Closes tokens place opening
    closing_is token at None e s = absurd (cc)
    closing_is token at (Some bracket) e s =
        let none : opens token.kind ≡ None = opens-closes token.kind (rw e refl) in
        record {
          token = token;
          bracket = bracket;
          at = at;
          closes_is = e;
          opens_is = none;
          nearest_is = sym (partner_here place tokens token at ∙ rw (none, e) refl) ∙ partner;
        }

    token_is : (o : Option Token) → slice_get tokens place ≡ o → is_some (option_and_then (λ token. closes token.kind) o) ≡ true → Closes tokens place opening
    token_is None e s = absurd (cc)
    token_is (Some token) e s = closing_is token e (closes token.kind) refl s

gone_behind : (bracket : Bracket) (around : List Open) (k : ℕ) → IsSomeAnd (behind_closed bracket around) (λ after. is_open k after ≡ false) → is_open k (after_closing (Some bracket) around) ≡ false
gone_behind bracket around k = gone (behind_closed bracket around)
  where
    gone : (after : Option (List Open)) → IsSomeAnd after (λ x. is_open k x ≡ false) → is_open k (unwrap_or after around) ≡ false
    gone None h = absurd h
    gone (Some after) h = h

pub paired : (tokens : List Token) (opening closing : ℕ) → is_some (closes_at tokens closing) ≡ true → partner_at tokens closing ≡ Some opening → ArePaired tokens opening closing
paired tokens opening closing some partner =
    let c = closes_by tokens closing opening some partner in
    let around : List Open = around_before closing tokens in
    let began = BeganBefore-around closing tokens in
    let is = nearest_is c.bracket tokens around opening closing began (Opened-around closing tokens) c.nearest_is in
    let gone : is_open opening (after_token closing c.token.kind around) ≡ false = rw (c.opens_is, c.closes_is) (gone_behind c.bracket around opening is.gone) in
    let closes_is : closes_at tokens closing ≡ Some c.bracket = rw c.at c.closes_is in
    record { before = open_before closing opening around began is.stays; kind = is.kind ∙ sym closes_is; partner = ends_here closing opening tokens c.token c.at is.stays gone }

-- Groups that have ended, and groups that are open.

-- behind the token that opens it a group is open, or its partner is behind us
pub ended_or_open : (place k : ℕ) (tokens : List Token) → place ≤ length tokens → k < place → is_some (opens_at tokens k) ≡ true →
    (is_open k (around_before place tokens) ≡ true) ⊎ ((end : ℕ) × (partner_at tokens k ≡ Some end) × (end < place))
ended_or_open zero k tokens within less opener = absurd (omega (arith, less))
ended_or_open (suc place) k tokens within less opener =
    let t = element_at tokens place (omega (arith, within)) in
    rw add-one at (behind place k tokens t.0 t.1 less opener (λ h. ended_or_open place k tokens (omega (arith, within)) h opener))
  where
    behind : (place k : ℕ) (tokens : List Token) (token : Token) → slice_get tokens place ≡ Some token → k < suc place → is_some (opens_at tokens k) ≡ true →
        (k < place → (is_open k (around_before place tokens) ≡ true) ⊎ ((end : ℕ) × (partner_at tokens k ≡ Some end) × (end < place))) →
        (is_open k (around_before (place + 1) tokens) ≡ true) ⊎ ((end : ℕ) × (partner_at tokens k ≡ Some end) × (end < place + 1))
    behind place k tokens token at less opener before =
        let around : List Open = around_before place tokens in
        let after : List Open = after_token place token.kind around in
        let next = around_next place tokens token at in
        ⊎_elim
        (λ (e : k ≡ place).
        let opened : is_some (opens token.kind) ≡ true = rw (e, at) at opener in
        inl (rw (next, e) (open_itself place token.kind around (BeganBefore-around place tokens) ∙ opened)))
        (λ (ne : k ≡ place → ⊥). ⊎_elim
        (λ (stays : is_open k around ≡ true). ⊎_elim
        (λ (still : is_open k after ≡ true). inl (rw next still))
        (λ (gone : is_open k after ≡ false). inr (place, ends_here place k tokens token at stays gone, omega arith))
        (cases_Bool (is_open k after)))
        (λ ended. inr (ended.0, ended.1, omega (arith, ended.2)))
        (before (omega (arith, less, ne))))
        (cases_eq k place)

-- Groups lie one in another.

-- what a group that stays open says of one that began before it
abbrev Within : (first second behind : ℕ) (around after : List Open) → Type 0
Within first second behind around after = is_open second after ≡ true → (second < behind) × (is_open first around ≡ true → is_open first after ≡ true)

around_closed : (bracket : Bracket) (first second behind : ℕ) (around : List Open) → first < second → BeganBefore behind around → IfSome (behind_closed bracket around) (Within first second behind around)
around_closed bracket first second behind [] less began = tt
around_closed bracket first second behind (group ∷ outer) less began =
    let outside : second < group.place → is_open first (group ∷ outer) ≡ true → is_open first outer ≡ true = λ inner stays. ⊎_elim
    (λ (here : (group.place == first) ≡ true). absurd (omega (arith, eqb-true group.place first here, inner, less)))
    (λ (there : is_open first outer ≡ true). there)
    (or_cases (group.place == first) (is_open first outer) stays) in
    after_two (λ after. IfSome after (Within first second behind (group ∷ outer))) (is_same bracket group.bracket) (is_same Interpolation group.bracket) (Some outer) (behind_closed bracket outer)
    (λ _ stays. let inner : second < group.place = open_before group.place second outer began.1 stays in (omega (arith, inner, began.0), outside inner))
    tt
    (λ _ _. IfSome_then (behind_closed bracket outer) (around_closed bracket first second group.place outer less began.1)
    (λ after f stays. let w = f stays in (omega (arith, w.0, began.0), λ e. w.1 (outside w.0 e))))

-- a group stays open as long as one inside it does
stays_around : (place : ℕ) (kind : Kind) (first second : ℕ) (around : List Open) → first < second → BeganBefore place around → is_open first around ≡ true →
    is_open second (after_token place kind around) ≡ true → is_open first (after_token place kind around) ≡ true
stays_around place kind first second around less began stays = opened (opens kind)
  where
    closed : (closing : Option Bracket) → is_open second (after_closing closing around) ≡ true → is_open first (after_closing closing around) ≡ true
    closed None e = stays
    closed (Some bracket) e =
        unwrapped (λ after. is_open second after ≡ true → is_open first after ≡ true) (behind_closed bracket around) around
        (IfSome_then (behind_closed bracket around) (around_closed bracket first second place around less began) (λ after f h. (f h).1 stays)) (λ _. stays) e

    opened : (opening : Option Bracket) → is_open second (after_opening place kind opening around) ≡ true → is_open first (after_opening place kind opening around) ≡ true
    opened None e = closed (closes kind) e
    opened (Some bracket) e = or_right (place == first) (is_open first around) stays

pub end_from : (tokens : List Token) (k place : ℕ) (around : List Open) → place ≤ (group_end k place around tokens).place
unfolding group_end
end_from [] k place around = omega arith
end_from (token ∷ tokens) k place around = either (is_open k (after_token place token.kind around)) (end_from tokens k (place + 1) (after_token place token.kind around))
  where
    either : (still : Bool) → place + 1 ≤ (group_end k (place + 1) (after_token place token.kind around) tokens).place →
        place ≤ (if still then group_end k (place + 1) (after_token place token.kind around) tokens else record { place = place; closed = closes_group k token.kind around }).place
    either true h = omega (arith, h)
    either false h = omega arith

-- a group ends no later than those around it
ends_in_order : (tokens : List Token) (first second place : ℕ) (around : List Open) → first < second → BeganBefore place around → is_open first around ≡ true → is_open second around ≡ true →
    (group_end second place around tokens).place ≤ (group_end first place around tokens).place
unfolding group_end
ends_in_order [] first second place around less began a b = omega arith
ends_in_order (token ∷ tokens) first second place around less began a b =
    let after : List Open = after_token place token.kind around in
    ⊎_elim
    (λ (still : is_open second after ≡ true).
    let outer : is_open first after ≡ true = stays_around place token.kind first second around less began a still in
    rw (still, outer) (ends_in_order tokens first second (place + 1) after less (BeganBefore-token place token.kind around began) outer still))
    (λ (gone : is_open second after ≡ false). rw gone (end_from (token ∷ tokens) first place around))
    (cases_Bool (is_open second after))

kept_open : (place : ℕ) (kind : Kind) (k : ℕ) (around : List Open) (opening : Option Bracket) → is_some opening ≡ true → is_open k around ≡ true → is_open k (after_opening place kind opening around) ≡ true
kept_open place kind k around None e stays = absurd (cc)
kept_open place kind k around (Some bracket) e stays = or_right (place == k) (is_open k around) stays

-- a token that opens a group
pub record OpensOne (tokens : List Token) (place : ℕ) : Type 0 where
  pub token : Token
  pub at : slice_get tokens place ≡ Some token
  pub opened : is_some (opens token.kind) ≡ true
  pub within : place < length tokens
  pub stays : is_open place (around_before (place + 1) tokens) ≡ true

pub opens_one : (tokens : List Token) (place : ℕ) → is_some (opens_at tokens place) ≡ true → OpensOne tokens place
opens_one tokens place some = token_is (slice_get tokens place) refl some
  where
    token_is : (o : Option Token) → slice_get tokens place ≡ o → is_some (option_and_then (λ token. opens token.kind) o) ≡ true → OpensOne tokens place
    token_is None e s = absurd (cc)
    token_is (Some token) e s = record {
      token = token;
      at = e;
      opened = s;
      within = slice_get_within tokens place token e;
      stays = rw (around_next place tokens token e) (open_itself place token.kind (around_before place tokens) (BeganBefore-around place tokens) ∙ s);
    }

pub nested : (tokens : List Token) (first second first_end second_end : ℕ) → first < second → is_some (opens_at tokens first) ≡ true → is_some (opens_at tokens second) ≡ true →
    partner_at tokens first ≡ Some first_end → partner_at tokens second ≡ Some second_end → (first_end < second) ⊎ (second_end ≤ first_end)
nested tokens first second first_end second_end less a b first_at second_at =
    let inner = opens_one tokens second b in
    let next = around_next second tokens inner.token inner.at in
    let behind : second + 1 ≤ length tokens = omega (arith, inner.within) in
    ⊎_elim
    (λ (stays : is_open first (around_before second tokens) ≡ true).
    let outer : is_open first (around_before (second + 1) tokens) ≡ true = rw next (kept_open second inner.token.kind first (around_before second tokens) (opens inner.token.kind) inner.opened stays) in
    let first_is = same_Some first_end _ (sym first_at ∙ partner_open (second + 1) first tokens behind outer) in
    let second_is = same_Some second_end _ (sym second_at ∙ partner_open (second + 1) second tokens behind inner.stays) in
    let order = ends_in_order (drop (second + 1) tokens) first second (second + 1) (around_before (second + 1) tokens) less (BeganBefore-around (second + 1) tokens) outer inner.stays in
    inr (omega (arith, first_is, second_is, order)))
    (λ ended. let same : first_end ≡ ended.0 = same_Some first_end ended.0 (sym first_at ∙ ended.1) in inl (omega (arith, same, ended.2)))
    (ended_or_open second first tokens (omega (arith, inner.within)) less a)

-- An interpolation is a border.

border_closed : (bracket : Bracket) (tokens : List Token) (around : List Open) (k behind : ℕ) → BeganBefore behind around → Opened tokens around → is_open k around ≡ true → opens_at tokens k ≡ Some Interpolation →
    IfSome (behind_closed bracket around) (λ after. is_open k after ≡ false → bracket ≡ Interpolation)
border_closed bracket tokens [] k behind began each stays kind = absurd (cc)
border_closed bracket tokens (group ∷ outer) k behind began each stays kind =
    let here : (group.place == k) ≡ true → group.bracket ≡ Interpolation = λ e. same_Some group.bracket Interpolation (sym each.0 ∙ rw (eqb-true group.place k e) kind) in
    after_two (λ after. IfSome after (λ x. is_open k x ≡ false → bracket ≡ Interpolation)) (is_same bracket group.bracket) (is_same Interpolation group.bracket) (Some outer) (behind_closed bracket outer)
    (λ same gone. ⊎_elim
    (λ (e : (group.place == k) ≡ true). is_same-true bracket group.bracket same ∙ here e)
    (λ (e : is_open k outer ≡ true). let h : true ≡ false = sym e ∙ gone in absurd (cc))
    (or_cases (group.place == k) (is_open k outer) stays))
    tt
    (λ _ border. ⊎_elim
    (λ (e : (group.place == k) ≡ true). let h : true ≡ false = rw (here e) at border in absurd (cc))
    (λ (e : is_open k outer ≡ true). border_closed bracket tokens outer k group.place began.1 each.1 e kind)
    (or_cases (group.place == k) (is_open k outer) stays))

closes_border : (tokens : List Token) (place k : ℕ) (kind : Kind) (around : List Open) → BeganBefore place around → Opened tokens around → is_open k around ≡ true → opens_at tokens k ≡ Some Interpolation →
    is_open k (after_token place kind around) ≡ false → closes kind ≡ Some Interpolation
closes_border tokens place k kind around began each stays opener gone =
    let none = opens_none place kind k around stays gone in
    opened (opens kind) none gone
  where
    behind : (bracket : Bracket) (after : Option (List Open)) → IfSome after (λ x. is_open k x ≡ false → bracket ≡ Interpolation) → is_open k (unwrap_or after around) ≡ false → bracket ≡ Interpolation
    behind bracket None f e = let h : true ≡ false = sym stays ∙ e in absurd (cc)
    behind bracket (Some after) f e = f e

    closed : (closing : Option Bracket) → is_open k (after_closing closing around) ≡ false → closing ≡ Some Interpolation
    closed None e = let h : true ≡ false = sym stays ∙ e in absurd (cc)
    closed (Some bracket) e = ap (λ (b : Bracket). Some b) (behind bracket (behind_closed bracket around) (border_closed bracket tokens around k place began each stays opener) e)

    opened : (opening : Option Bracket) → is_some opening ≡ false → is_open k (after_opening place kind opening around) ≡ false → closes kind ≡ Some Interpolation
    opened None s e = closed (closes kind) e
    opened (Some bracket) s e = absurd (cc)

-- where a group ends that is an interpolation
abbrev EndsAtBorder : List Token → (end : GroupEnd) → Type 0
EndsAtBorder tokens end = (closes_at tokens end.place ≡ Some Interpolation) ⊎ (end.place ≡ length tokens)

border_end : (rest : List Token) (place k : ℕ) (tokens : List Token) → drop place tokens ≡ rest → place ≤ length tokens → is_open k (around_before place tokens) ≡ true → opens_at tokens k ≡ Some Interpolation →
    EndsAtBorder tokens (group_end k place (around_before place tokens) rest)
unfolding group_end
border_end [] place k tokens e within stays kind = inr (omega (arith, within, length-drop place tokens, ap length e))
border_end (token ∷ rest) place k tokens e within stays kind =
    let around : List Open = around_before place tokens in
    let at = some_at_drop tokens place token rest e in
    let next = around_next place tokens token at in
    ⊎_elim
    (λ (still : is_open k (after_token place token.kind around) ≡ true).
    rw still (rw next at (border_end rest (place + 1) k tokens (drop_one_more tokens place token rest e) (omega (arith, slice_get_within tokens place token at)) (rw next still) kind)))
    (λ (gone : is_open k (after_token place token.kind around) ≡ false).
    rw (gone, at) (inl (closes_border tokens place k token.kind around (BeganBefore-around place tokens) (Opened-around place tokens) stays kind gone)))
    (cases_Bool (is_open k (after_token place token.kind around)))

pub bordered : (tokens : List Token) (opening end : ℕ) → opens_at tokens opening ≡ Some Interpolation → partner_at tokens opening ≡ Some end → (closes_at tokens end ≡ Some Interpolation) ⊎ (end ≡ length tokens)
bordered tokens opening end kind at =
    let one = opens_one tokens opening (rw kind refl) in
    let within : opening + 1 ≤ length tokens = omega (arith, one.within) in
    let end_is = same_Some end _ (sym at ∙ partner_open (opening + 1) opening tokens within one.stays) in
    subst (λ (n : ℕ). (closes_at tokens n ≡ Some Interpolation) ⊎ (n ≡ length tokens)) (sym end_is) (border_end (drop (opening + 1) tokens) (opening + 1) opening tokens refl within one.stays kind)
