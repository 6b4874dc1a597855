-- Groups, and their kinds alone.
use Rattle.std.proofs.Common.{◌≡◌, ℕ, suc, Bool, true, false, not, ◌&&◌, List, [], ◌∷◌, length, if◌then◌else◌, Option, Some, None, is_some, unwrap_or, refl, sym, ap, ◌∙◌}
use Rattle.std.specs.Option.{option_map, option_and_then}
use Rattle.std.proofs.lemmas.Bool.{and_right}
use Rattle.dart_tokens.specs.declared.token.Kind.{Kind}
use Rattle.dart_tokens.specs.declared.token.Token.{Token}
use Rattle.dart_tokens.specs.Groups.{Bracket, Interpolation, Open, is_same, opens, closes, nearest, behind_closed, after_closing, after_opening, after_token, end_of, partner_of}
use Rattle.dart_tokens.specs.Read.{is_unopened}
use Rattle.grouping.specs.Ahead.{kinds_of, left_open, kinds_closed, kinds_opened, kinds_after, closes_none, is_left_out}

pub length-kinds : (around : List Open) → length (kinds_of around) ≡ length around
length-kinds [] = refl
length-kinds (group ∷ outer) = ap (λ (n : ℕ). suc n) (length-kinds outer)

-- what stays open
pub kinds_behind : (bracket : Bracket) (around : List Open) → option_map kinds_of (behind_closed bracket around) ≡ left_open bracket (kinds_of around)
kinds_behind bracket [] = refl
kinds_behind bracket (group ∷ outer) = by (is_same bracket group.bracket) (is_same Interpolation group.bracket) (kinds_behind bracket outer)
  where
    by : (found border : Bool) → option_map kinds_of (behind_closed bracket outer) ≡ left_open bracket (kinds_of outer) →
        option_map kinds_of (if found then Some outer else (if border then None else behind_closed bracket outer))
        ≡ (if found then Some (kinds_of outer) else (if border then None else left_open bracket (kinds_of outer)))
    by true border h = refl
    by false true h = refl
    by false false h = h

-- whether a bracket closes a group
pub some_nearest : (bracket : Bracket) (around : List Open) → is_some (nearest bracket around) ≡ is_some (left_open bracket (kinds_of around))
some_nearest bracket [] = refl
some_nearest bracket (group ∷ outer) = by (is_same bracket group.bracket) (is_same Interpolation group.bracket) (some_nearest bracket outer)
  where
    by : (found border : Bool) → is_some (nearest bracket outer) ≡ is_some (left_open bracket (kinds_of outer)) →
        is_some (if found then Some group.place else (if border then None else nearest bracket outer))
        ≡ is_some (if found then Some (kinds_of outer) else (if border then None else left_open bracket (kinds_of outer)))
    by true border h = refl
    by false true h = refl
    by false false h = h

unwrapped_kinds : (after : Option (List Open)) (left : Option (List Bracket)) (around : List Open) → option_map kinds_of after ≡ left → kinds_of (unwrap_or after around) ≡ unwrap_or left (kinds_of around)
unwrapped_kinds None left around e = rw (sym e) refl
unwrapped_kinds (Some after) left around e = rw (sym e) refl

closing_kinds : (closing : Option Bracket) (around : List Open) → kinds_of (after_closing closing around) ≡ kinds_closed closing (kinds_of around)
closing_kinds None around = refl
closing_kinds (Some bracket) around = unwrapped_kinds (behind_closed bracket around) (left_open bracket (kinds_of around)) around (kinds_behind bracket around)

opening_kinds : (place : ℕ) (kind : Kind) (opening : Option Bracket) (around : List Open) → kinds_of (after_opening place kind opening around) ≡ kinds_opened kind opening (kinds_of around)
opening_kinds place kind None around = closing_kinds (closes kind) around
opening_kinds place kind (Some bracket) around = refl

-- what is open behind a token
pub kinds_token : (place : ℕ) (kind : Kind) (around : List Open) → kinds_of (after_token place kind around) ≡ kinds_after kind (kinds_of around)
kinds_token place kind around = opening_kinds place kind (opens kind) around

pub length_token : (place : ℕ) (kind : Kind) (around : List Open) → length (kinds_after kind (kinds_of around)) ≡ length (after_token place kind around)
length_token place kind around = ap (λ (ks : List Bracket). length ks) (sym (kinds_token place kind around)) ∙ length-kinds (after_token place kind around)

-- whether the grammar reads it
unopened_test : (opened : Bool) (end : ℕ) (closing : Option Bracket) (around : List Open) →
    (is_some closing && not (is_some (if opened then Some end else option_and_then (λ bracket. nearest bracket around) closing))) ≡ (if opened then false else closes_none closing (kinds_of around))
unopened_test true end closing around = and_right (is_some closing) false refl
unopened_test false end None around = refl
unopened_test false end (Some bracket) around = ap (λ (b : Bool). not b) (some_nearest bracket around)

pub unopened_kinds : (place : ℕ) (kind : Kind) (around : List Open) (ts : List Token) → is_unopened kind (partner_of place kind around ts) ≡ is_left_out kind (kinds_of around)
unopened_kinds place kind around ts = unopened_test (is_some (opens kind)) (end_of place kind around ts).place (closes kind) around
