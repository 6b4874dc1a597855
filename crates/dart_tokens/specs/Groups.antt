-- Which brackets belong together.
use Rattle.std.specs.Prelude.{ℕ, ◌+◌, ◌==◌, Bool, true, false, not, ◌&&◌, List, [], ◌∷◌, ◌++◌, if◌then◌else◌, Option, None, Some, is_some, option_and_then, unwrap_or}
use Rattle.std.specs.Option.{option_map_or}
use Rattle.std.specs.List.{list_any}
use Rattle.dart_tokens.specs.declared.token.Kind.{Kind}
use Rattle.dart_tokens.specs.declared.token.Token.{Token}
pub use Rattle.dart_tokens.specs.Kinds.{Bracket, Round, Square, Curly, Interpolation, opens, closes}
use Rattle.dart_tokens.specs.declared.groups.GroupFault.{GroupFault}
use Rattle.dart_tokens.specs.declared.groups.GroupFaultKind.{GroupFaultKind}
use Rattle.dart_tokens.specs.declared.groups.GroupFaultKind.TheVariants.{UnclosedGroup, UnopenedGroup}

-- both are of one kind
abbrev pub is_same : Bracket → Bracket → Bool
is_same Round Round = true
is_same Round _ = false
is_same Square Square = true
is_same Square _ = false
is_same Curly Curly = true
is_same Curly _ = false
is_same Interpolation Interpolation = true
is_same Interpolation _ = false

-- a group that is open: its kind, and the place of the token that opens it
pub record Open : Type 0 where
  pub bracket : Bracket
  pub place : ℕ

-- Of the open groups, innermost first, those that stay open when one of this kind is closed: the nearest of the kind goes, with those opened since. None, if none of the kind is open. What is open outside an interpolation can't be closed inside it.
abbrev pub behind_closed : Bracket → List Open → Option (List Open)
behind_closed bracket [] = None
behind_closed bracket (group ∷ more) =
    if is_same bracket group.bracket then Some more
    else (if is_same Interpolation group.bracket then None else behind_closed bracket more)

-- where the nearest open group of a kind began, which a token that closes this kind closes
abbrev pub nearest : Bracket → List Open → Option ℕ
nearest bracket [] = None
nearest bracket (group ∷ more) =
    if is_same bracket group.bracket then Some group.place
    else (if is_same Interpolation group.bracket then None else nearest bracket more)

-- the groups that are open behind a token that closes one, or none
abbrev pub after_closing : Option Bracket → List Open → List Open
after_closing None around = around
after_closing (Some bracket) around = unwrap_or (behind_closed bracket around) around

-- the groups that are open behind a token at a place that opens one, or else may close one
abbrev pub after_opening : (place : ℕ) → Kind → Option Bracket → List Open → List Open
after_opening place kind None around = after_closing (closes kind) around
after_opening place kind (Some bracket) around = record { bracket = bracket; place = place } ∷ around

-- the groups that are open behind a token at a place; a token that closes a kind of which none is open closes nothing
abbrev pub after_token : (place : ℕ) → Kind → List Open → List Open
after_token place kind around = after_opening place kind (opens kind) around

-- the group that began at a place is open
abbrev pub is_open : (place : ℕ) → List Open → Bool
is_open place around = list_any (λ o. o.place == place) around

-- a token of the kind closes the group that began at a place
abbrev pub closes_group : (place : ℕ) → Kind → List Open → Bool
closes_group place kind around = option_map_or (λ bracket. option_map_or (λ p. p == place) (nearest bracket around) false) (closes kind) false

-- where a group ends: before the token at this place, which closes it or not, or at the end of all tokens
pub record GroupEnd : Type 0 where
  pub place : ℕ
  pub closed : Bool

-- The end of the group that began at a place, where these groups are open before the tokens: it is open up to the first token behind which it isn't.
unfoldable pub group_end : (place : ℕ) → (at : ℕ) → List Open → List Token → GroupEnd
group_end place at around [] = record { place = at; closed = false }
group_end place at around (token ∷ tokens) =
    if is_open place (after_token at token.kind around) then group_end place (at + 1) (after_token at token.kind around) tokens
    else record { place = at; closed = closes_group place token.kind around }

-- the end of the group that a token at a place opens
abbrev pub end_of : (place : ℕ) → Kind → List Open → List Token → GroupEnd
end_of place kind around tokens = group_end place (place + 1) (after_token place kind around) tokens

-- The partner of a token: of one that opens a group, the place before which the group ends; of one that closes a group, the place where that began; of any other token there is none.
abbrev pub partner_of : (place : ℕ) → Kind → List Open → List Token → Option ℕ
partner_of place kind around tokens =
    if is_some (opens kind) then Some (end_of place kind around tokens).place
    else option_and_then (λ bracket. nearest bracket around) (closes kind)

-- the partners of tokens, of which the first has this place, and before which these groups are open
unfoldable pub partners_from : (place : ℕ) → List Open → List Token → List (Option ℕ)
partners_from place around [] = []
partners_from place around (token ∷ tokens) =
    partner_of place token.kind around tokens ∷ partners_from (place + 1) (after_token place token.kind around) tokens

-- the partners of all tokens
abbrev pub partners_of : List Token → List (Option ℕ)
partners_of tokens = partners_from 0 [] tokens

-- a fault at a token
abbrev pub fault_at : (place : ℕ) → GroupFaultKind → GroupFault
fault_at place kind = record { kind = kind; token = place }

-- what is wrong with a token: it opens a group that no token closes, or it closes none
abbrev pub faults_of_token : (place : ℕ) → Kind → List Open → List Token → List GroupFault
faults_of_token place kind around tokens =
    if is_some (opens kind) then (if (end_of place kind around tokens).closed then [] else fault_at place UnclosedGroup ∷ [])
    else (if is_some (closes kind) && not (is_some (partner_of place kind around tokens)) then fault_at place UnopenedGroup ∷ [] else [])

-- what is wrong with the groups of tokens, of which the first has this place, in the order of the tokens
unfoldable pub faults_from : (place : ℕ) → List Open → List Token → List GroupFault
faults_from place around [] = []
faults_from place around (token ∷ tokens) =
    faults_of_token place token.kind around tokens ++ faults_from (place + 1) (after_token place token.kind around) tokens

-- what is wrong with the groups of all tokens
abbrev pub faults_of : List Token → List GroupFault
faults_of tokens = faults_from 0 [] tokens
