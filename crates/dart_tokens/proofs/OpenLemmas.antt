-- Open groups: where they began, and which of them stay open.
use Rattle.std.proofs.Common.{◌≡◌, ℕ, ◌+◌, ◌<◌, ◌≤◌, ◌==◌, Bool, true, false, List, [], ◌∷◌, Option, Some, None, if◌then◌else◌, is_some, unwrap_or, IfSome, refl, ◌∙◌, arith}
use Rattle.std.proofs.lemmas.Bool.{or_cases, or_right, eqb-true, eq-eqb, ne_eqb, false_from_ne_true}
use Rattle.std.proofs.lemmas.Option.{IfSome_then}
use Rattle.std.proofs.Math.Logic.{⊎_elim}
use Rattle.dart_tokens.specs.declared.token.Kind.{Kind}
use Rattle.dart_tokens.specs.Groups.{Bracket, Interpolation, Open, is_same, is_open, nearest, behind_closed, after_closing, after_opening, after_token, opens, closes}
use Rattle.dart_tokens.specs.Stack.{BeganBefore, is_closable}

-- each group that is open began before the place
pub open_before : (place k : ℕ) (around : List Open) → BeganBefore place around → is_open k around ≡ true → k < place
open_before place k [] began stays = absurd (cc)
open_before place k (group ∷ outer) began stays =
    ⊎_elim (λ e. let same = eqb-true group.place k e in omega (arith, same, began.0)) (λ e. let less = open_before group.place k outer began.1 e in omega (arith, less, began.0))
    (or_cases (group.place == k) (is_open k outer) stays)

-- none that began at the place, or later, is open
pub none_open : (place k : ℕ) (around : List Open) → BeganBefore place around → place ≤ k → is_open k around ≡ false
none_open place k around began late = false_from_ne_true (is_open k around) (λ e. let less = open_before place k around began e in omega (arith, less, late))

-- a later place is above them too
pub BeganBefore-later : (place later : ℕ) (around : List Open) → place ≤ later → BeganBefore place around → BeganBefore later around
BeganBefore-later place later [] h began = tt
BeganBefore-later place later (group ∷ outer) h began = (omega (arith, h, began.0), began.1)

-- one of three, by two tests
pub after_two : {A : Type 0} (P : Option A → Type 0) (found border : Bool) (here there : Option A) → (found ≡ true → P here) → P None → (found ≡ false → border ≡ false → P there) → P (if found then here else (if border then None else there))
after_two P true border here there a b c = a refl
after_two P false true here there a b c = b
after_two P false false here there a b c = c refl refl

-- what stays open when a group is closed began before the place, too
pub BeganBefore-closed : (bracket : Bracket) (place : ℕ) (around : List Open) → BeganBefore place around → IfSome (behind_closed bracket around) (BeganBefore place)
BeganBefore-closed bracket place [] began = tt
BeganBefore-closed bracket place (group ∷ outer) began =
    let outer_began : BeganBefore place outer = BeganBefore-later group.place place outer (omega (arith, began.0)) began.1 in
    after_two (λ after. IfSome after (BeganBefore place)) (is_same bracket group.bracket) (is_same Interpolation group.bracket) (Some outer) (behind_closed bracket outer) (λ _. outer_began) tt
    (λ _ _. BeganBefore-closed bracket place outer outer_began)

-- groups stay open where a bracket can close one
pub is_some-behind_closed : (bracket : Bracket) (around : List Open) → is_some (behind_closed bracket around) ≡ is_some (nearest bracket around)
is_some-behind_closed bracket [] = refl
is_some-behind_closed bracket (group ∷ outer) = both (is_same bracket group.bracket) (is_same Interpolation group.bracket) (is_some-behind_closed bracket outer)
  where
    both : (found border : Bool) → is_some (behind_closed bracket outer) ≡ is_some (nearest bracket outer) →
        is_some (if found then Some outer else (if border then None else behind_closed bracket outer)) ≡ is_some (if found then Some group.place else (if border then None else nearest bracket outer))
    both true border h = refl
    both false true h = refl
    both false false h = h

-- where no bracket of the kind can close a group, one leaves all open
pub nothing_closed : (bracket : Bracket) (around : List Open) → is_some (nearest bracket around) ≡ false → after_closing (Some bracket) around ≡ around
nothing_closed bracket around h = stays (behind_closed bracket around) (is_some-behind_closed bracket around ∙ h)
  where
    stays : (after : Option (List Open)) → is_some after ≡ false → unwrap_or after around ≡ around
    stays None e = refl
    stays (Some after) e = absurd (cc)

-- A bracket that can close a group, and doesn't close the innermost, closes the same one once that has ended.
pub record ClosesFurtherOut (bracket : Bracket) (group : Open) (outer : List Open) : Type 0 where
  pub closable : is_closable bracket outer ≡ true
  pub nearest : nearest bracket (group ∷ outer) ≡ nearest bracket outer
  pub behind : behind_closed bracket (group ∷ outer) ≡ behind_closed bracket outer

pub closes_further_out : (bracket : Bracket) (group : Open) (outer : List Open) → is_closable bracket (group ∷ outer) ≡ true → is_same bracket group.bracket ≡ false → ClosesFurtherOut bracket group outer
closes_further_out bracket group outer can other =
    let border : is_same Interpolation group.bracket ≡ false = no_border (is_same bracket group.bracket) (is_same Interpolation group.bracket) other can in
    record { closable = rw (other, border) at can; nearest = rw (other, border) refl; behind = rw (other, border) refl }
  where
    no_border : (found border : Bool) → found ≡ false → is_some (if found then Some group.place else (if border then None else nearest bracket outer)) ≡ true → border ≡ false
    no_border true border e h = absurd (cc)
    no_border false true e h = absurd (cc)
    no_border false false e h = refl

-- what stays open when a group is closed was open before
open-closed : (bracket : Bracket) (k : ℕ) (around : List Open) → IfSome (behind_closed bracket around) (λ after. is_open k after ≡ true → is_open k around ≡ true)
open-closed bracket k [] = tt
open-closed bracket k (group ∷ outer) =
    let more : is_open k outer ≡ true → is_open k (group ∷ outer) ≡ true = λ e. or_right (group.place == k) (is_open k outer) e in
    after_two (λ after. IfSome after (λ x. is_open k x ≡ true → is_open k (group ∷ outer) ≡ true)) (is_same bracket group.bracket) (is_same Interpolation group.bracket) (Some outer) (behind_closed bracket outer) (λ _. more) tt
    (λ _ _. IfSome_then (behind_closed bracket outer) (open-closed bracket k outer) (λ x f e. more (f e)))

-- of what was open or was left so, whatever holds of both
pub unwrapped : {A : Type 0} (P : A → Type 0) (o : Option A) (other : A) → IfSome o P → P other → P (unwrap_or o other)
unwrapped P None other a b = b
unwrapped P (Some x) other a b = a

BeganBefore-closing : (closing : Option Bracket) (place : ℕ) (around : List Open) → BeganBefore place around → BeganBefore place (after_closing closing around)
BeganBefore-closing None place around began = began
BeganBefore-closing (Some bracket) place around began = unwrapped (BeganBefore place) (behind_closed bracket around) around (BeganBefore-closed bracket place around began) began

open-closing : (closing : Option Bracket) (k : ℕ) (around : List Open) → is_open k (after_closing closing around) ≡ true → is_open k around ≡ true
open-closing None k around e = e
open-closing (Some bracket) k around e = unwrapped (λ x. is_open k x ≡ true → is_open k around ≡ true) (behind_closed bracket around) around (open-closed bracket k around) (λ h. h) e

-- behind a token the open groups began before or at it
pub BeganBefore-token : (place : ℕ) (kind : Kind) (around : List Open) → BeganBefore place around → BeganBefore (place + 1) (after_token place kind around)
BeganBefore-token place kind around began = opened (opens kind)
  where
    opened : (opening : Option Bracket) → BeganBefore (place + 1) (after_opening place kind opening around)
    opened None = BeganBefore-later place (place + 1) (after_closing (closes kind) around) (omega arith) (BeganBefore-closing (closes kind) place around began)
    opened (Some bracket) = (omega arith, began)

-- what is open behind a token, and began before it, was open before it
pub open-token : (place : ℕ) (kind : Kind) (k : ℕ) (around : List Open) → k < place → is_open k (after_token place kind around) ≡ true → is_open k around ≡ true
open-token place kind k around less = opened (opens kind)
  where
    opened : (opening : Option Bracket) → is_open k (after_opening place kind opening around) ≡ true → is_open k around ≡ true
    opened None e = open-closing (closes kind) k around e
    opened (Some bracket) e = let other : (place == k) ≡ false = ne_eqb place k (λ h. omega (arith, h, less)) in rw other at e

-- the group of the token itself is open behind it exactly where the token opens one
pub open_itself : (place : ℕ) (kind : Kind) (around : List Open) → BeganBefore place around → is_open place (after_token place kind around) ≡ is_some (opens kind)
open_itself place kind around began = opened (opens kind)
  where
    opened : (opening : Option Bracket) → is_open place (after_opening place kind opening around) ≡ is_some opening
    opened None = none_open place place (after_closing (closes kind) around) (BeganBefore-closing (closes kind) place around began) (omega arith)
    opened (Some bracket) = rw (eq-eqb place place refl) refl
