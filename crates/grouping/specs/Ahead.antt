-- What becomes of open groups in the tokens ahead: told without places, by the kinds of the groups, innermost first.
use Rattle.std.specs.Prelude.{ℕ, suc, ◌==◌, Bool, false, not, nat_lt, List, [], ◌∷◌, map, length, if◌then◌else◌, Option, None, Some, is_some, unwrap_or}
use Rattle.std.specs.Option.{option_map_or}
use Rattle.dart_tokens.specs.declared.token.Kind.{Kind}
use Rattle.dart_tokens.specs.declared.token.Token.{Token}
use Rattle.dart_tokens.specs.declared.grouped_token.GroupedToken.{GroupedToken}
use Rattle.dart_tokens.specs.declared.tokens.UnopenedBracket.{UnopenedBracket}
use Rattle.dart_tokens.specs.Groups.{Bracket, Interpolation, Open, is_same, opens, closes}
use Rattle.dart_tokens.specs.Read.{ungrouped}

-- the kinds of groups
abbrev pub kinds_of : List Open → List Bracket
kinds_of around = map (λ group. group.bracket) around

-- those that stay open when one of this kind is closed; none, if none of the kind can be
abbrev pub left_open : Bracket → List Bracket → Option (List Bracket)
left_open bracket [] = None
left_open bracket (kind ∷ outer) =
    if is_same bracket kind then Some outer else (if is_same Interpolation kind then None else left_open bracket outer)

-- those that are open behind a token that closes one, or none
abbrev pub kinds_closed : Option Bracket → List Bracket → List Bracket
kinds_closed None around = around
kinds_closed (Some bracket) around = unwrap_or (left_open bracket around) around

-- those that are open behind a token that opens one, or else may close one
abbrev pub kinds_opened : Kind → Option Bracket → List Bracket → List Bracket
kinds_opened kind None around = kinds_closed (closes kind) around
kinds_opened kind (Some bracket) around = bracket ∷ around

-- those that are open behind a token
abbrev pub kinds_after : Kind → List Bracket → List Bracket
kinds_after kind around = kinds_opened kind (opens kind) around

-- a token would close a group, and none of its kind can be closed
abbrev pub closes_none : Option Bracket → List Bracket → Bool
closes_none closing around = option_map_or (λ bracket. not (is_some (left_open bracket around))) closing false

-- a token is a bracket that closes no group: the grammar doesn't read it
abbrev pub is_left_out : Kind → List Bracket → Bool
is_left_out kind around = if is_some (opens kind) then false else closes_none (closes kind) around

-- how many of the tokens ahead the grammar reads in a group that is open, which has so many groups around it
abbrev pub width_ahead : (depth : ℕ) → List Bracket → List Token → ℕ
width_ahead depth around [] = 0
width_ahead depth around (t ∷ ts) =
    if nat_lt depth (length (kinds_after t.kind around))
    then (if is_left_out t.kind around then width_ahead depth (kinds_after t.kind around) ts else suc (width_ahead depth (kinds_after t.kind around) ts))
    else 0

-- one of the tokens ahead closes the group that is open with so many around it; another may end it, or none
abbrev pub is_closed_ahead : (depth : ℕ) → List Bracket → List Token → Bool
is_closed_ahead depth around [] = false
is_closed_ahead depth around (t ∷ ts) =
    if nat_lt depth (length (kinds_after t.kind around)) then is_closed_ahead depth (kinds_after t.kind around) ts
    else length (kinds_after t.kind around) == depth

-- a token with the size of its group
abbrev pub sized : GroupedToken → (width : ℕ) → (closed : Bool) → GroupedToken
sized t width closed = record t { is_closed = closed; width = width }

-- a token that opens a group, or doesn't, with the size that its group has in the tokens ahead
abbrev pub sized_token : Token → List Bracket → List Token → GroupedToken
sized_token t around ts =
    if is_some (opens t.kind)
    then sized (ungrouped t) (width_ahead (length around) (kinds_after t.kind around) ts) (is_closed_ahead (length around) (kinds_after t.kind around) ts)
    else ungrouped t

-- what the grammar reads of the tokens ahead
abbrev pub read_ahead : List Bracket → List Token → List GroupedToken
read_ahead around [] = []
read_ahead around (t ∷ ts) =
    if is_left_out t.kind around then read_ahead (kinds_after t.kind around) ts
    else sized_token t around ts ∷ read_ahead (kinds_after t.kind around) ts

-- the brackets ahead that close no group, where so many tokens were read
abbrev pub unopened_ahead : (before : ℕ) → List Bracket → List Token → List UnopenedBracket
unopened_ahead before around [] = []
unopened_ahead before around (t ∷ ts) =
    if is_left_out t.kind around then record { before = before; token = t } ∷ unopened_ahead before (kinds_after t.kind around) ts
    else unopened_ahead (suc before) (kinds_after t.kind around) ts
