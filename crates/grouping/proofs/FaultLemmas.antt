-- What is wrong with groups shows in the tokens that the grammar reads and the brackets between them.
use Rattle.std.proofs.Common.{◌≡◌, ℕ, suc, ◌+◌, ◌-◌, Bool, not, true, false, List, [], ◌∷◌, ◌++◌, take, length, if◌then◌else◌, is_some, refl, sym, ap, ◌∙◌, arith, append_assoc}
use Rattle.dart_tokens.specs.declared.token.Kind.{Kind}
use Rattle.dart_tokens.specs.declared.token.Token.{Token}
use Rattle.dart_tokens.specs.declared.grouped_token.GroupedToken.{GroupedToken}
use Rattle.dart_tokens.specs.declared.tokens.UnopenedBracket.{UnopenedBracket}
use Rattle.dart_tokens.specs.declared.groups.GroupFault.{GroupFault}
use Rattle.dart_tokens.specs.declared.groups.GroupFaultKind.TheVariants.{UnclosedGroup, UnopenedGroup}
use Rattle.dart_tokens.specs.Groups.{Bracket, Open, GroupEnd, opens, closes, after_token, end_of, partner_of, fault_at, faults_of_token, faults_from, faults_of}
use Rattle.dart_tokens.specs.Stack.{BeganBefore}
use Rattle.dart_tokens.specs.Read.{is_unopened}
use Rattle.grouping.specs.Ahead.{kinds_of, kinds_after, is_closed_ahead, closes_none, is_left_out, sized_token, read_ahead, unopened_ahead}
use Rattle.grouping.specs.Faults.{fault_of_read, faults_between}
use Rattle.grouping.proofs.KindLemmas.{kinds_token, length-kinds, unopened_kinds}
use Rattle.grouping.proofs.EndLemmas.{BeganBefore-token}
use Rattle.grouping.proofs.ReadLemmas.{end_of_opened}
use Rattle.grouping.proofs.WholeLemmas.{FirstFrom, first_from}

fault_first : (place n : ℕ) (x : GroupedToken) (xs : List GroupedToken) (bs : List UnopenedBracket) → FirstFrom (suc n) bs →
    faults_between place n (x ∷ xs) bs ≡ fault_of_read place x ++ faults_between (place + 1) (suc n) xs bs
fault_first place n x xs [] f = refl
fault_first place n x xs (b ∷ bs) f =
    let m : ℕ = b.before - suc n in
    let d : b.before - n ≡ suc m = omega (arith, f) in
    let e : place + suc (length (take m xs)) ≡ place + 1 + length (take m xs) = omega arith in
    rw (d, e, append_assoc) refl

bracket_fault_first : (place n : ℕ) (t : Token) (xs : List GroupedToken) (bs : List UnopenedBracket) →
    faults_between place n xs (record { before = n; token = t } ∷ bs) ≡ fault_at place UnopenedGroup ∷ faults_between (place + 1) n xs bs
bracket_fault_first place n t xs bs = let d : n - n ≡ 0 = omega arith in let e : place + 0 ≡ place = omega arith in rw (d, e) refl

-- a bracket that closes none
left_out_opens : (kind : Kind) (around : List Bracket) → is_left_out kind around ≡ true → is_some (opens kind) ≡ false
left_out_opens kind around = by (is_some (opens kind))
  where
    by : (b : Bool) → (if b then false else closes_none (closes kind) around) ≡ true → b ≡ false
    by true e = absurd (cc)
    by false e = refl

fault_left_out : (place : ℕ) (t : Token) (around : List Open) (ts : List Token) → is_left_out t.kind (kinds_of around) ≡ true → faults_of_token place t.kind around ts ≡ fault_at place UnopenedGroup ∷ []
fault_left_out place t around ts out =
    let opened : is_some (opens t.kind) ≡ false = left_out_opens t.kind (kinds_of around) out in
    let unopened : is_unopened t.kind (partner_of place t.kind around ts) ≡ true = unopened_kinds place t.kind around ts ∙ out in
    rw (opened, rw opened at unopened) refl

-- any other token
fault_kept : (place : ℕ) (t : Token) (around : List Open) (ts : List Token) → BeganBefore place around → is_left_out t.kind (kinds_of around) ≡ false →
    fault_of_read place (sized_token t (kinds_of around) ts) ≡ faults_of_token place t.kind around ts
fault_kept place t around ts began kept = by (is_some (opens t.kind)) refl
  where
    closing : (closed : Bool) → (if not closed then fault_at place UnclosedGroup ∷ [] else []) ≡ (if closed then [] else fault_at place UnclosedGroup ∷ [])
    closing true = refl
    closing false = refl

    by : (b : Bool) → is_some (opens t.kind) ≡ b → fault_of_read place (sized_token t (kinds_of around) ts) ≡ faults_of_token place t.kind around ts
    by true e =
        let end : GroupEnd = end_of place t.kind around ts in
        let closed : end.closed ≡ is_closed_ahead (length (kinds_of around)) (kinds_after t.kind (kinds_of around)) ts
        = (end_of_opened place t.kind around ts began e).closed ∙ ap (λ (ks : List Bracket). is_closed_ahead (length around) ks ts) (kinds_token place t.kind around)
        ∙ ap (λ (n : ℕ). is_closed_ahead n (kinds_after t.kind (kinds_of around)) ts) (sym (length-kinds around)) in
        rw (e, closed, e) (closing (is_closed_ahead (length (kinds_of around)) (kinds_after t.kind (kinds_of around)) ts))
    by false e =
        let unopened : is_unopened t.kind (partner_of place t.kind around ts) ≡ false = unopened_kinds place t.kind around ts ∙ kept in rw (e, rw e at unopened, e) refl

faults_ahead : (place n : ℕ) (around : List Open) (ts : List Token) → BeganBefore place around →
    faults_between place n (read_ahead (kinds_of around) ts) (unopened_ahead n (kinds_of around) ts) ≡ faults_from place around ts
unfolding faults_from
faults_ahead place n around [] began = refl
faults_ahead place n around (t ∷ ts) began =
    by (is_left_out t.kind (kinds_of around)) refl
    (λ k. ap (λ (ks : List Bracket). faults_between (place + 1) k (read_ahead ks ts) (unopened_ahead k ks ts)) (sym (kinds_token place t.kind around))
    ∙ faults_ahead (place + 1) k (after_token place t.kind around) ts (BeganBefore-token place t.kind around began))
  where
    ks : List Bracket
    ks = kinds_after t.kind (kinds_of around)

    rest : List GroupFault
    rest = faults_from (place + 1) (after_token place t.kind around) ts

    by : (b : Bool) → is_left_out t.kind (kinds_of around) ≡ b → ((k : ℕ) → faults_between (place + 1) k (read_ahead (kinds_after t.kind (kinds_of around)) ts) (unopened_ahead k (kinds_after t.kind (kinds_of around)) ts) ≡ faults_from (place + 1) (after_token place t.kind around) ts) →
        faults_between place n (read_ahead (kinds_of around) (t ∷ ts)) (unopened_ahead n (kinds_of around) (t ∷ ts))
        ≡ faults_of_token place t.kind around ts ++ faults_from (place + 1) (after_token place t.kind around) ts
    by true e more = rw (e, bracket_fault_first, more n, fault_left_out place t around ts e) refl
    by false e more =
        let first = fault_first place n (sized_token t (kinds_of around) ts) (read_ahead (kinds_after t.kind (kinds_of around)) ts) (unopened_ahead (suc n) (kinds_after t.kind (kinds_of around)) ts)
        (first_from (suc n) (kinds_after t.kind (kinds_of around)) ts) in
        rw (e, first, more (suc n), fault_kept place t around ts began e) refl

-- of the tokens of a text
pub whole_faults : (ts : List Token) → faults_between 0 0 (read_ahead [] ts) (unopened_ahead 0 [] ts) ≡ faults_of ts
whole_faults ts = faults_ahead 0 0 [] ts tt
