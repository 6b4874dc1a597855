-- Which number a token of a unit has among the parts of its interface part. Parts are numbered from 0 as they stand there, lexemes and marks alike.
use Rattle.std.specs.Prelude.{◌≡◌, ℕ, ◌+◌, ◌==◌, List, [], ◌∷◌, ◌++◌, take, drop, map, slice_get, if◌then◌else◌, Option, None, Some, option_map}
use Rattle.std.specs.List.{find, flat_map}
use Rattle.dart_tokens.specs.declared.token.Token.{Token}
use Rattle.dart_tree.specs.declared.places.Span.{Span}
use Rattle.dart_tree.specs.declared.unit.Unit.{Unit}
use Rattle.interface_part.specs.declared.hidden.Hidden.{Hidden}
use Rattle.interface_part.specs.declared.numbers.NumberRange.{NumberRange}
use Rattle.interface_part.specs.declared.numbers.SeenToken.{SeenToken}
use Rattle.interface_part.specs.Hidden.{hidden_in}
use Rattle.interface_part.specs.Interface.{count_before, is_seen}

-- of each part of an interface part the token whose lexeme it is; of a mark none
abbrev pub tokens_of_parts : List Hidden → List Token → List (Option Token)
tokens_of_parts [] ts = map Some ts
tokens_of_parts (h ∷ hs) ts =
    let first = count_before h.span.start ts in
    let behind = drop first ts in
    let inside = count_before h.span.end behind in
    map Some (take first ts)
    ++ ((if is_seen h (take inside behind) then map Some (take inside behind) else None ∷ [])
    ++ tokens_of_parts hs (drop inside behind))

-- those of a unit
abbrev pub tokens_by_number : Unit → List (Option Token)
tokens_by_number u = tokens_of_parts (hidden_in u.tree) u.tokens

-- the part with this number is the lexeme of the token, which so is seen
abbrev pub HasNumber : List (Option Token) → Token → (number : ℕ) → Type 0
HasNumber parts t number = slice_get parts number ≡ Some (Some t)

-- the token, if it is one
abbrev pub if_token : Option Token → List Token
if_token None = []
if_token (Some t) = t ∷ []

-- the tokens among parts
abbrev pub tokens_among : List (Option Token) → List Token
tokens_among parts = flat_map if_token parts

-- the range of a token in the text
abbrev pub span_of_token : Token → Span
span_of_token t = record { start = t.start; end = t.end }

-- the tokens of parts of which the first has this number, each with its own
abbrev pub seen_from : (number : ℕ) → List (Option Token) → List SeenToken
seen_from number [] = []
seen_from number (None ∷ parts) = seen_from (number + 1) parts
seen_from number (Some t ∷ parts) = record { number = number; span = span_of_token t } ∷ seen_from (number + 1) parts

-- the tokens of a unit that are seen
abbrev pub seen_tokens : Unit → List SeenToken
seen_tokens u = seen_from 0 (tokens_by_number u)

-- the number of the seen token that begins at an offset
abbrev pub number_at : List SeenToken → (offset : ℕ) → Option ℕ
number_at seen offset = option_map (λ s. s.number) (find (λ s. s.span.start == offset) seen)

-- and of the one that ends there
abbrev pub number_to : List SeenToken → (offset : ℕ) → Option ℕ
number_to seen offset = option_map (λ s. s.number) (find (λ s. s.span.end == offset) seen)

-- the range of the token with a number
abbrev pub span_at : List SeenToken → (number : ℕ) → Option Span
span_at seen number = option_map (λ s. s.span) (find (λ s. s.number == number) seen)

-- both numbers, if there are both
abbrev pub numbers_between : Option ℕ → Option ℕ → Option NumberRange
numbers_between None last = None
numbers_between (Some first) None = None
numbers_between (Some first) (Some last) = Some (record { first = first; last = last })

-- of a range of the text the numbers of the token that begins where it does and of the one that ends where it does
abbrev pub numbers_over : List SeenToken → Span → Option NumberRange
numbers_over seen span = numbers_between (number_at seen span.start) (number_to seen span.end)

-- from the start of the one range to the end of the other, if there are both
abbrev pub span_between : Option Span → Option Span → Option Span
span_between None last = None
span_between (Some first) None = None
span_between (Some first) (Some last) = Some (record { start = first.start; end = last.end })

-- the range of the text from the first of two tokens with these numbers to the last
abbrev pub span_over : List SeenToken → NumberRange → Option Span
span_over seen numbers = span_between (span_at seen numbers.first) (span_at seen numbers.last)
