-- The faults of tokens, by the partners of all.
use Rattle.std.proofs.Common.{◌≡◌, ℕ, ◌+◌, ◌≤◌, ◌==◌, Bool, true, false, not, ◌&&◌, List, [], ◌∷◌, ◌++◌, Option, Some, None, if◌then◌else◌, is_some, option_and_then, length, drop, get_or, slice_get, refl, sym, ap, ◌∙◌, arith, length-drop}
use Rattle.std.proofs.lemmas.List.{get_or_past, append_assoc, append-nil, drop_all}
use Rattle.std.proofs.lemmas.Bool.{or_right}
use Rattle.std.proofs.lemmas.Option.{slice_get_within}
use Rattle.std.specs.Option.{option_map, option_map_or, option_to_list}
use Rattle.dart_tokens.specs.declared.token.Token.{Token}
use Rattle.dart_tokens.specs.declared.token.Kind.{Kind}
use Rattle.dart_tokens.specs.declared.groups.GroupFault.{GroupFault}
use Rattle.dart_tokens.specs.declared.groups.GroupFaultKind.TheVariants.{UnclosedGroup, UnopenedGroup}
use Rattle.dart_tokens.specs.Groups.{Open, Bracket, GroupEnd, is_open, opens, closes, nearest, after_opening, after_token, closes_group, group_end, partner_of, partners_of, end_of, fault_at, faults_from, faults_of, faults_of_token}
use Rattle.dart_tokens.specs.Faults.{is_place, is_mutual, fault_by}
use Rattle.dart_tokens.proofs.OpenLemmas.{open_itself}
use Rattle.dart_tokens.proofs.AroundLemmas.{around_before, around_next, BeganBefore-around, drop_at_some, drop_one_more, some_at_drop, partner_here}
use Rattle.dart_tokens.proofs.PartnerLemmas.{length-partners_from}

-- a token that ends an open group opens none
pub opens_none : (place : ℕ) (kind : Kind) (k : ℕ) (around : List Open) → is_open k around ≡ true → is_open k (after_token place kind around) ≡ false → is_some (opens kind) ≡ false
opens_none place kind k around stays gone = opened (opens kind) gone
  where
    opened : (opening : Option Bracket) → is_open k (after_opening place kind opening around) ≡ false → is_some opening ≡ false
    opened None e = refl
    opened (Some bracket) e = let h : true ≡ false = sym (or_right (place == k) (is_open k around) stays) ∙ e in absurd (cc)

-- it closes the group where its partner is the token that opened it
closes_by_partner : (k : ℕ) (closing : Option Bracket) (around : List Open) →
    option_map_or (λ bracket. is_place k (nearest bracket around)) closing false ≡ is_place k (option_and_then (λ bracket. nearest bracket around) closing)
closes_by_partner k None around = refl
closes_by_partner k (Some bracket) around = refl

-- an end is closed where the partner there is the token that opened the group
abbrev ClosedByPartner : (k : ℕ) → List Token → GroupEnd → Type 0
ClosedByPartner k tokens end = end.closed ≡ is_place k (get_or (partners_of tokens) end.place None)

closed_step : (place k : ℕ) (tokens : List Token) (token : Token) (later : GroupEnd) → slice_get tokens place ≡ Some token → is_open k (around_before place tokens) ≡ true →
    (still : Bool) → is_open k (after_token place token.kind (around_before place tokens)) ≡ still → (still ≡ true → ClosedByPartner k tokens later) →
    ClosedByPartner k tokens (if still then later else record { place = place; closed = closes_group k token.kind (around_before place tokens) })
closed_step place k tokens token later at stays true e more = more refl
closed_step place k tokens token later at stays false e more =
    let around : List Open = around_before place tokens in
    let partner : get_or (partners_of tokens) place None ≡ option_and_then (λ bracket. nearest bracket around) (closes token.kind) = partner_here place tokens token at ∙ rw (opens_none place token.kind k around stays e) refl in
    closes_by_partner k (closes token.kind) around ∙ ap (is_place k) (sym partner)

pub closed_by_partner : (rest : List Token) (place k : ℕ) (tokens : List Token) → drop place tokens ≡ rest → place ≤ length tokens → is_open k (around_before place tokens) ≡ true →
    ClosedByPartner k tokens (group_end k place (around_before place tokens) rest)
unfolding group_end
closed_by_partner [] place k tokens e within stays =
    let short : length tokens ≤ place = omega (arith, length-drop place tokens, ap length e) in
    rw (get_or_past (partners_of tokens) place None (omega (arith, short, length-partners_from 0 [] tokens))) refl
closed_by_partner (token ∷ rest) place k tokens e within stays =
    let at = some_at_drop tokens place token rest e in
    let next = around_next place tokens token at in
    closed_step place k tokens token (group_end k (place + 1) (after_token place token.kind (around_before place tokens)) rest) at stays (is_open k (after_token place token.kind (around_before place tokens))) refl
    (λ still. rw next at (closed_by_partner rest (place + 1) k tokens (drop_one_more tokens place token rest e) (omega (arith, slice_get_within tokens place token at)) (rw next still)))

-- whether the group that a token opens is closed
pub closed_where_mutual : (place : ℕ) (tokens : List Token) (token : Token) → slice_get tokens place ≡ Some token → is_some (opens token.kind) ≡ true →
    (end_of place token.kind (around_before place tokens) (drop (place + 1) tokens)).closed ≡ is_mutual (partners_of tokens) place
closed_where_mutual place tokens token at opened =
    let around : List Open = around_before place tokens in
    let next = around_next place tokens token at in
    let stays : is_open place (around_before (place + 1) tokens) ≡ true = rw next (open_itself place token.kind around (BeganBefore-around place tokens) ∙ opened) in
    let partner : get_or (partners_of tokens) place None ≡ Some (end_of place token.kind around (drop (place + 1) tokens)).place = partner_here place tokens token at ∙ rw opened refl in
    rw partner (rw next at (closed_by_partner (drop (place + 1) tokens) (place + 1) place tokens refl (omega (arith, slice_get_within tokens place token at)) stays))

shown : (opening closed back closing some some' : Bool) (place : ℕ) → (opening ≡ true → closed ≡ back) → some ≡ some' →
    (if opening then (if closed then [] else fault_at place UnclosedGroup ∷ []) else (if closing && not some then fault_at place UnopenedGroup ∷ [] else []))
    ≡ option_to_list (option_map (fault_at place) (if opening then (if back then None else Some UnclosedGroup) else (if closing && not some' then Some UnopenedGroup else None)))
shown true closed true closing some some' place same e = rw (same refl) refl
shown true closed false closing some some' place same e = rw (same refl) refl
shown false closed back false some some' place same e = refl
shown false closed back true some true place same e = rw e refl
shown false closed back true some false place same e = rw e refl

-- what is wrong with the token at a place
fault_shown : (place : ℕ) (tokens : List Token) (token : Token) → slice_get tokens place ≡ Some token →
    faults_of_token place token.kind (around_before place tokens) (drop (place + 1) tokens) ≡ option_to_list (option_map (fault_at place) (fault_by (partners_of tokens) place token.kind))
fault_shown place tokens token at =
    let around : List Open = around_before place tokens in
    let rest : List Token = drop (place + 1) tokens in
    shown (is_some (opens token.kind)) (end_of place token.kind around rest).closed (is_mutual (partners_of tokens) place) (is_some (closes token.kind)) (is_some (partner_of place token.kind around rest))
    (is_some (get_or (partners_of tokens) place None)) place (closed_where_mutual place tokens token at) (ap (λ (o : Option ℕ). is_some o) (sym (partner_here place tokens token at)))

-- the faults from a place on
pub faults_here : (place : ℕ) (tokens : List Token) (token : Token) → slice_get tokens place ≡ Some token →
    faults_from place (around_before place tokens) (drop place tokens)
    ≡ option_to_list (option_map (fault_at place) (fault_by (partners_of tokens) place token.kind)) ++ faults_from (place + 1) (around_before (place + 1) tokens) (drop (place + 1) tokens)
unfolding faults_from
faults_here place tokens token at =
    ap (faults_from place (around_before place tokens)) (drop_at_some tokens place token at)
    ∙ ap (λ (fs : List GroupFault). fs ++ faults_from (place + 1) (after_token place token.kind (around_before place tokens)) (drop (place + 1) tokens)) (fault_shown place tokens token at)
    ∙ ap (λ (around : List Open). option_to_list (option_map (fault_at place) (fault_by (partners_of tokens) place token.kind)) ++ faults_from (place + 1) around (drop (place + 1) tokens)) (sym (around_next place tokens token at))

-- the faults before a place and those from it on are all
abbrev pub FaultsSoFar : (place : ℕ) → List Token → List GroupFault → Type 0
FaultsSoFar place tokens faults = faults_of tokens ≡ faults ++ faults_from place (around_before place tokens) (drop place tokens)

pub FaultsSoFar-next : (place : ℕ) (tokens : List Token) (token : Token) (faults new : List GroupFault) → slice_get tokens place ≡ Some token →
    new ≡ faults ++ option_to_list (option_map (fault_at place) (fault_by (partners_of tokens) place token.kind)) → FaultsSoFar place tokens faults → FaultsSoFar (place + 1) tokens new
FaultsSoFar-next place tokens token faults new at e before =
    before ∙ ap (λ (fs : List GroupFault). faults ++ fs) (faults_here place tokens token at) ∙ sym (append_assoc faults _ _)
    ∙ ap (λ (fs : List GroupFault). fs ++ faults_from (place + 1) (around_before (place + 1) tokens) (drop (place + 1) tokens)) (sym e)

pub FaultsSoFar-end : (tokens : List Token) (faults : List GroupFault) → FaultsSoFar (length tokens) tokens faults → faults ≡ faults_of tokens
unfolding faults_from
FaultsSoFar-end tokens faults all =
    sym (all ∙ ap (λ (rest : List Token). faults ++ faults_from (length tokens) (around_before (length tokens) tokens) rest) (drop_all (length tokens) tokens (omega arith)) ∙ append-nil faults)
