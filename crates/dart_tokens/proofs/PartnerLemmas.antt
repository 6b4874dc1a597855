-- The partners of the first of some tokens become those of all.
use Rattle.std.proofs.Common.{◌≡◌, ℕ, suc, ◌+◌, ◌<◌, ◌≤◌, Bool, true, false, not, ◌&&◌, List, [], ◌∷◌, Option, Some, None, if◌then◌else◌, is_some, length, get_or, slice_get, refl, sym, ap, ◌∙◌, arith}
use Rattle.std.proofs.lemmas.Bool.{cases_eq}
use Rattle.std.proofs.lemmas.List.{ext_get_or, drop_all}
use Rattle.std.proofs.lemmas.Option.{slice_get_within}
use Rattle.std.proofs.Math.Logic.{⊎_elim}
use Rattle.dart_tokens.specs.declared.token.Token.{Token}
use Rattle.dart_tokens.specs.Groups.{Open, is_open, opens, after_token, group_end, partners_from, partners_of}
use Rattle.dart_tokens.specs.Pairing.{Takes, partner_so_far}
use Rattle.dart_tokens.proofs.OpenLemmas.{open-token, open_itself}
use Rattle.dart_tokens.proofs.AroundLemmas.{around_before, around_next, BeganBefore-around, drop_at_some, partner_here, partner_open}

-- the partners of the tokens before a place, where those of open groups are the place behind all tokens
abbrev pub SoFar : (place : ℕ) → List Token → List (Option ℕ) → Type 0
SoFar place tokens partners = (k : ℕ) → k < place → get_or partners k None ≡ (if is_open k (around_before place tokens) then Some (length tokens) else get_or (partners_of tokens) k None)

-- a group that ends at the next token has it as partner
pub ends_here : (place k : ℕ) (tokens : List Token) (token : Token) → slice_get tokens place ≡ Some token → is_open k (around_before place tokens) ≡ true →
    is_open k (after_token place token.kind (around_before place tokens)) ≡ false → get_or (partners_of tokens) k None ≡ Some place
unfolding group_end
ends_here place k tokens token at open-before closed =
    let inside : place ≤ length tokens = omega (arith, slice_get_within tokens place token at) in
    partner_open place k tokens inside open-before ∙ rw (drop_at_some tokens place token at, closed) refl

settled : {A : Type 0} (a b : Bool) (end now old new final : A) → (b ≡ true → a ≡ true) → (a ≡ true → b ≡ false → final ≡ now) →
    old ≡ (if a then end else final) → new ≡ (if a && not b then now else old) → new ≡ (if b then end else final)
settled true true end now old new final sub ends o n = n ∙ o
settled true false end now old new final sub ends o n = n ∙ sym (ends refl refl)
settled false true end now old new final sub ends o n = let h : false ≡ true = sub refl in absurd (cc)
settled false false end now old new final sub ends o n = n ∙ o

itself : {A : Type 0} (b : Bool) (x y z : A) → (if b then x else z) ≡ (if b then x else (if b then y else z))
itself true x y z = refl
itself false x y z = refl

SoFar-next : (place : ℕ) (tokens : List Token) (token : Token) (old new : List (Option ℕ)) → slice_get tokens place ≡ Some token → length old ≡ place →
    Takes (length tokens) token.kind (around_before place tokens) (after_token place token.kind (around_before place tokens)) old new → SoFar place tokens old → SoFar (place + 1) tokens new
SoFar-next place tokens token old new at count takes before k late =
    let around : List Open = around_before place tokens in
    let next = around_next place tokens token at in
    ⊎_elim
    (λ (e : k ≡ place).
    let own : get_or new k None ≡ partner_so_far (length tokens) token.kind around = rw e (rw count at takes.own) in
    own ∙ rw (e, next, open_itself place token.kind around (BeganBefore-around place tokens), partner_here place tokens token at)
    (itself (is_some (opens token.kind)) _ _ _))
    (λ (ne : k ≡ place → ⊥).
    let less : k < place = omega (arith, late, ne) in
    rw next
    (settled (is_open k around) (is_open k (after_token place token.kind around)) (Some (length tokens)) (Some place) (get_or old k None) (get_or new k None) (get_or (partners_of tokens) k None)
    (open-token place token.kind k around less) (ends_here place k tokens token at) (before k less) (rw count at (takes.before k (omega (arith, less, count))))))
    (cases_eq k place)

-- one token more, of a known place
pub record Turn (end place : ℕ) (tokens : List Token) (token : Token) (around after : List Open) (old new : List (Option ℕ)) : Type 0 where
  pub at : slice_get tokens place ≡ Some token
  pub end_is : end ≡ length tokens
  pub around_is : around ≡ around_before place tokens
  pub count : length old ≡ place
  pub after_is : after ≡ after_token place token.kind around
  pub takes : Takes end token.kind around after old new

module _ (end place : ℕ) (tokens : List Token) (token : Token) (around after : List Open) (old new : List (Option ℕ)) (turn : Turn end place tokens token around after old new) where
  pub around-turn : after ≡ around_before (place + 1) tokens
  around-turn = turn.after_is ∙ ap (after_token place token.kind) turn.around_is ∙ sym (around_next place tokens token turn.at)

  pub SoFar-turn : SoFar place tokens old → SoFar (place + 1) tokens new
  SoFar-turn before =
      let after_is : after ≡ after_token place token.kind (around_before place tokens) = turn.after_is ∙ ap (after_token place token.kind) turn.around_is in
      SoFar-next place tokens token old new turn.at turn.count (rw (turn.end_is, after_is, turn.around_is) at turn.takes) before

pub length-partners_from : (place : ℕ) (around : List Open) (tokens : List Token) → length (partners_from place around tokens) ≡ length tokens
unfolding partners_from
length-partners_from place around [] = refl
length-partners_from place around (token ∷ tokens) = ap (λ n. suc n) (length-partners_from (place + 1) (after_token place token.kind around) tokens)

behind_all : {A : Type 0} (b : Bool) (end final : A) → (b ≡ true → final ≡ end) → (if b then end else final) ≡ final
behind_all true end final h = sym (h refl)
behind_all false end final h = refl

-- behind all tokens
pub SoFar-end : (tokens : List Token) (partners : List (Option ℕ)) → length partners ≡ length tokens → SoFar (length tokens) tokens partners → partners ≡ partners_of tokens
unfolding group_end
SoFar-end tokens partners count all =
    ext_get_or None partners (partners_of tokens) (count ∙ sym (length-partners_from 0 [] tokens))
    (λ k less. all k (omega (arith, less, count)) ∙ behind_all (is_open k (around_before (length tokens) tokens)) (Some (length tokens)) (get_or (partners_of tokens) k None)
    (λ e. partner_open (length tokens) k tokens (omega arith) e ∙ rw (drop_all (length tokens) tokens (omega arith)) refl))
