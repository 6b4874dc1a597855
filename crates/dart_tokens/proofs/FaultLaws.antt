-- Which brackets have faults.
use Rattle.std.proofs.Common.{◌≡◌, ◌≢◌, ◌↔◌, ℕ, zero, suc, ◌+◌, ◌<◌, ◌≤◌, Bool, true, false, not, ◌&&◌, List, [], ◌∷◌, ◌++◌, Option, Some, None, if◌then◌else◌, is_some, option_and_then, length, drop, get_or, slice_get, refl, sym, subst, ap, ◌∙◌, arith}
use Rattle.std.proofs.lemmas.Bool.{cases_Bool, cases_lt, eqb-true, eq-eqb, false_from_ne_true}
use Rattle.std.proofs.lemmas.List.{get_or_past}
use Rattle.std.proofs.lemmas.List.Elements.{Contains-append_left, Contains-append_right, Contains-append_cases}
use Rattle.std.proofs.lemmas.Option.{same_Some, slice_get_within}
use Rattle.std.proofs.Math.Logic.{⊎_elim}
use Rattle.std.specs.Prelude.{Contains, IsSome}
use Rattle.std.specs.Option.{option_map, option_map_or, option_to_list}
use Rattle.dart_tokens.specs.declared.token.Token.{Token}
use Rattle.dart_tokens.specs.declared.token.Kind.{Kind}
use Rattle.dart_tokens.specs.declared.groups.GroupFault.{GroupFault}
use Rattle.dart_tokens.specs.declared.groups.GroupFaultKind.{GroupFaultKind}
use Rattle.dart_tokens.specs.declared.groups.GroupFaultKind.TheVariants.{UnclosedGroup, UnopenedGroup}
use Rattle.dart_tokens.specs.Groups.{Open, opens, closes, nearest, after_token, partners_of, end_of, fault_at, faults_from, faults_of}
use Rattle.dart_tokens.specs.Faults.{is_place, is_mutual, fault_by}
use Rattle.dart_tokens.specs.Pairs.{opens_at, closes_at, partner_at}
use Rattle.dart_tokens.proofs.AroundLemmas.{around_before, drop_one_more, some_at_drop, element_at, partner_here}
use Rattle.dart_tokens.proofs.PartnerLemmas.{length-partners_from}
use Rattle.dart_tokens.proofs.FaultLemmas.{faults_here}
use Rattle.dart_tokens.proofs.LawLemmas.{end_from, opens-closes, paired, opens_one}

-- The faults of one token, and of all.

-- the faults of the token at a place, which has a kind
abbrev of_one : List Token → (place : ℕ) → Kind → List GroupFault
of_one tokens place kind = option_to_list (option_map (fault_at place) (fault_by (partners_of tokens) place kind))

-- a fault is one of some token
record IsOfToken (tokens : List Token) (fault : GroupFault) : Type 0 where
  place : ℕ
  token : Token
  at : slice_get tokens place ≡ Some token
  has : Contains (of_one tokens place token.kind) fault

none_in : {A : Type 0} (x : A) → Contains [] x → ⊥
none_in x h = omega (arith, h.1)

of_token : (rest : List Token) (place : ℕ) (tokens : List Token) (fault : GroupFault) → drop place tokens ≡ rest → Contains (faults_from place (around_before place tokens) rest) fault → IsOfToken tokens fault
unfolding faults_from
of_token [] place tokens fault e has = absurd (none_in fault has)
of_token (token ∷ rest) place tokens fault e has =
    let at = some_at_drop tokens place token rest e in
    let behind = drop_one_more tokens place token rest e in
    let all : faults_from place (around_before place tokens) (token ∷ rest) ≡ of_one tokens place token.kind ++ faults_from (place + 1) (around_before (place + 1) tokens) rest =
    ap (faults_from place (around_before place tokens)) (sym e) ∙ faults_here place tokens token at ∙ ap (λ (ts : List Token). of_one tokens place token.kind ++ faults_from (place + 1) (around_before (place + 1) tokens) ts) behind in
    ⊎_elim
    (λ (here : Contains (of_one tokens place token.kind) fault). record { place = place; token = token; at = at; has = here })
    (λ (later : Contains (faults_from (place + 1) (around_before (place + 1) tokens) rest) fault). of_token rest (place + 1) tokens fault behind later)
    (Contains-append_cases (of_one tokens place token.kind) (faults_from (place + 1) (around_before (place + 1) tokens) rest) fault (subst (λ (fs : List GroupFault). Contains fs fault) all has))

in_all : (count place : ℕ) (tokens : List Token) (fault : GroupFault) (of : IsOfToken tokens fault) → place + count ≡ of.place → Contains (faults_from place (around_before place tokens) (drop place tokens)) fault
in_all zero place tokens fault of e =
    let same : place ≡ of.place = omega (arith, e) in
    rw same
    (subst (λ (fs : List GroupFault). Contains fs fault) (sym (faults_here of.place tokens of.token of.at))
    (Contains-append_left (of_one tokens of.place of.token.kind) (faults_from (of.place + 1) (around_before (of.place + 1) tokens) (drop (of.place + 1) tokens)) fault of.has))
in_all (suc count) place tokens fault of e =
    let inside : place < length tokens = omega (arith, e, slice_get_within tokens of.place of.token of.at) in
    let t = element_at tokens place inside in
    subst (λ (fs : List GroupFault). Contains fs fault) (sym (faults_here place tokens t.0 t.1))
    (Contains-append_right (of_one tokens place t.0.kind) (faults_from (place + 1) (around_before (place + 1) tokens) (drop (place + 1) tokens)) fault (in_all count (place + 1) tokens fault of (omega (arith, e))))

-- The fault of one token.

in_one : {A : Type 0} (o : Option A) (x : A) → Contains (option_to_list o) x → o ≡ Some x
in_one None x h = absurd (none_in x h)
in_one (Some y) x (zero, less, e) = ap (λ z. Some z) e
in_one (Some y) x (suc k, less, e) = absurd (omega (arith, less))

one_in : {A : Type 0} (o : Option A) (x : A) → o ≡ Some x → Contains (option_to_list o) x
one_in None x h = absurd (cc)
one_in (Some y) x h = let same : y ≡ x = same_Some y x h in (0, omega arith, same)

-- the fault of a token at its place
record IsFault (tokens : List Token) (place : ℕ) (kind : GroupFaultKind) : Type 0 where
  token : Token
  at : slice_get tokens place ≡ Some token
  is : fault_by (partners_of tokens) place token.kind ≡ Some kind

fault_of_place : (place other : ℕ) (kind : GroupFaultKind) (o : Option GroupFaultKind) → option_map (fault_at other) o ≡ Some (fault_at place kind) → (other ≡ place) × (o ≡ Some kind)
fault_of_place place other kind None e = absurd (cc)
fault_of_place place other kind (Some k) e =
    let same : fault_at other k ≡ fault_at place kind = same_Some (fault_at other k) (fault_at place kind) e in
    (ap (λ (f : GroupFault). f.token) same, ap (λ (f : GroupFault). Some f.kind) same)

is_fault : (tokens : List Token) (place : ℕ) (kind : GroupFaultKind) → Contains (faults_of tokens) (fault_at place kind) → IsFault tokens place kind
is_fault tokens place kind has = of_place (of_token tokens 0 tokens (fault_at place kind) refl has)
  where
    of_place : IsOfToken tokens (fault_at place kind) → IsFault tokens place kind
    of_place of =
        let parts = fault_of_place place of.place kind (fault_by (partners_of tokens) of.place of.token.kind) (in_one _ (fault_at place kind) of.has) in
        record {
          token = of.token;
          at = subst (λ (n : ℕ). slice_get tokens n ≡ Some of.token) parts.0 of.at;
          is = subst (λ (n : ℕ). fault_by (partners_of tokens) n of.token.kind ≡ Some kind) parts.0 parts.1;
        }

has_fault : (tokens : List Token) (place : ℕ) (kind : GroupFaultKind) → IsFault tokens place kind → Contains (faults_of tokens) (fault_at place kind)
has_fault tokens place kind f =
    let of : IsOfToken tokens (fault_at place kind) = record { place = place; token = f.token; at = f.at; has = one_in _ (fault_at place kind) (ap (option_map (fault_at place)) f.is) } in
    in_all place 0 tokens (fault_at place kind) of (omega arith)

unclosed_by : (opening back closing other : Bool) → (if opening then (if back then None else Some UnclosedGroup) else (if closing && not other then Some UnopenedGroup else None)) ≡ Some UnclosedGroup → (opening ≡ true) × (back ≡ false)
unclosed_by true true closing other e = absurd (cc)
unclosed_by true false closing other e = (refl, refl)
unclosed_by false back true true e = absurd (cc)
unclosed_by false back true false e = absurd (cc)
unclosed_by false back false other e = absurd (cc)

unopened_by : (opening back closing other : Bool) → (if opening then (if back then None else Some UnclosedGroup) else (if closing && not other then Some UnopenedGroup else None)) ≡ Some UnopenedGroup → (closing ≡ true) × (other ≡ false)
unopened_by true true closing other e = absurd (cc)
unopened_by true false closing other e = absurd (cc)
unopened_by false back true true e = absurd (cc)
unopened_by false back true false e = (refl, refl)
unopened_by false back false other e = absurd (cc)

-- Partners of partners.

none_from_false : {A : Type 0} (o : Option A) → is_some o ≡ false → o ≡ None
none_from_false None e = refl
none_from_false (Some x) e = absurd (cc)

some_inside : {A B : Type 0} (f : A → Option B) (o : Option A) (x : B) → option_and_then f o ≡ Some x → is_some o ≡ true
some_inside f None x e = absurd (cc)
some_inside f (Some y) x e = refl

-- the partner of a token that opens a group comes later
partner_later : (tokens : List Token) (place end : ℕ) → is_some (opens_at tokens place) ≡ true → partner_at tokens place ≡ Some end → place < end
partner_later tokens place end opener at =
    let one = opens_one tokens place opener in
    let around : List Open = around_before place tokens in
    let rest : List Token = drop (place + 1) tokens in
    let is : partner_at tokens place ≡ Some (end_of place one.token.kind around rest).place = partner_here place tokens one.token one.at ∙ rw one.opened refl in
    omega (arith, same_Some end (end_of place one.token.kind around rest).place (sym at ∙ is), end_from rest place (place + 1) (after_token place one.token.kind around))

within_tokens : (tokens : List Token) (place other : ℕ) → partner_at tokens place ≡ Some other → place < length tokens
within_tokens tokens place other at = ⊎_elim
    (λ (inside : place < length tokens). inside)
    (λ (past : length tokens ≤ place).
    let none : partner_at tokens place ≡ None = get_or_past (partners_of tokens) place None (omega (arith, past, length-partners_from 0 [] tokens)) in
    let h : None ≡ Some other = sym none ∙ at in absurd (cc))
    (cases_lt place (length tokens))

-- of two tokens that have each other as partners, where the one opens a group, the other closes one
back_closes : (tokens : List Token) (place other : ℕ) → partner_at tokens place ≡ Some other → partner_at tokens other ≡ Some place → is_some (opens_at tokens place) ≡ true → is_some (closes_at tokens other) ≡ true
back_closes tokens place other forth back opener =
    let t = element_at tokens other (within_tokens tokens other place back) in
    ⊎_elim
    (λ (opened : is_some (opens_at tokens other) ≡ true). absurd (omega (arith, partner_later tokens other place opened back, partner_later tokens place other opener forth)))
    (λ (closed : is_some (opens_at tokens other) ≡ false).
    let none : is_some (opens t.0.kind) ≡ false = rw t.1 at closed in
    let inner : option_and_then (λ bracket. nearest bracket (around_before other tokens)) (closes t.0.kind) ≡ Some place = sym (partner_here other tokens t.0 t.1 ∙ rw none refl) ∙ back in
    rw t.1 (some_inside (λ bracket. nearest bracket (around_before other tokens)) (closes t.0.kind) place inner))
    (cases_Bool (is_some (opens_at tokens other)))

-- what is mutual has a partner, of which it is the partner
mutual_means : (partners : List (Option ℕ)) (place : ℕ) → is_mutual partners place ≡ true → (other : ℕ) × (get_or partners place None ≡ Some other) × (get_or partners other None ≡ Some place)
mutual_means partners place = forth (get_or partners place None) refl
  where
    back : (other : ℕ) (o : Option ℕ) → get_or partners other None ≡ o → is_place place o ≡ true → get_or partners other None ≡ Some place
    back other None e h = absurd (cc)
    back other (Some p) e h = e ∙ ap (λ (n : ℕ). Some n) (eqb-true p place h)

    forth : (o : Option ℕ) → get_or partners place None ≡ o → option_map_or (λ other. is_place place (get_or partners other None)) o false ≡ true → (other : ℕ) × (get_or partners place None ≡ Some other) × (get_or partners other None ≡ Some place)
    forth None e h = absurd (cc)
    forth (Some other) e h = (other, e, back other (get_or partners other None) refl h)

-- The faults.

abbrev IsUnclosed : List Token → ℕ → Type 0
IsUnclosed tokens place = IsSome (opens_at tokens place) × ((closing : ℕ) → IsSome (closes_at tokens closing) → partner_at tokens closing ≢ Some place)

pub unclosed : (tokens : List Token) (place : ℕ) → Contains (faults_of tokens) (fault_at place UnclosedGroup) ↔ IsUnclosed tokens place
unclosed tokens place = (to, from)
  where
    to : Contains (faults_of tokens) (fault_at place UnclosedGroup) → IsUnclosed tokens place
    to has =
        let f = is_fault tokens place UnclosedGroup has in
        let parts = unclosed_by (is_some (opens f.token.kind)) (is_mutual (partners_of tokens) place) (is_some (closes f.token.kind)) (is_some (partner_at tokens place)) f.is in (
          rw f.at parts.0,
          λ closing some back.
              let pair = paired tokens place closing some back in
              let both : is_mutual (partners_of tokens) place ≡ true = rw (pair.partner, back) (eq-eqb place place refl) in
              let h : true ≡ false = sym both ∙ parts.1 in absurd (cc),
        )

    from : IsUnclosed tokens place → Contains (faults_of tokens) (fault_at place UnclosedGroup)
    from h =
        let one = opens_one tokens place h.0 in
        let single : is_mutual (partners_of tokens) place ≡ false = false_from_ne_true (is_mutual (partners_of tokens) place) (λ both.
        let pair = mutual_means (partners_of tokens) place both in
        h.1 pair.0 (back_closes tokens place pair.0 pair.1 pair.2 h.0) pair.2) in
        has_fault tokens place UnclosedGroup (record { token = one.token; at = one.at; is = rw (one.opened, single) refl })

abbrev IsUnopened : List Token → ℕ → Type 0
IsUnopened tokens place = IsSome (closes_at tokens place) × (partner_at tokens place ≡ None)

closing_token : (tokens : List Token) (place : ℕ) (o : Option Token) → slice_get tokens place ≡ o → is_some (option_and_then (λ t. closes t.kind) o) ≡ true → (t : Token) × (slice_get tokens place ≡ Some t) × (is_some (closes t.kind) ≡ true)
closing_token tokens place None e h = absurd (cc)
closing_token tokens place (Some t) e h = (t, e, h)

pub unopened : (tokens : List Token) (place : ℕ) → Contains (faults_of tokens) (fault_at place UnopenedGroup) ↔ IsUnopened tokens place
unopened tokens place = (to, from)
  where
    to : Contains (faults_of tokens) (fault_at place UnopenedGroup) → IsUnopened tokens place
    to has =
        let f = is_fault tokens place UnopenedGroup has in
        let parts = unopened_by (is_some (opens f.token.kind)) (is_mutual (partners_of tokens) place) (is_some (closes f.token.kind)) (is_some (partner_at tokens place)) f.is in
        (rw f.at parts.0, none_from_false (partner_at tokens place) parts.1)

    from : IsUnopened tokens place → Contains (faults_of tokens) (fault_at place UnopenedGroup)
    from h =
        let t = closing_token tokens place (slice_get tokens place) refl h.0 in
        has_fault tokens place UnopenedGroup (record { token = t.0; at = t.1; is = rw (opens-closes t.0.kind t.2, t.2, h.1) refl })
