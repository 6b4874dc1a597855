-- Segments with too many groups in one another, or with too many lexemes.
use Rattle.std.specs.Prelude.{◌≡◌, ℕ, zero, suc, ◌+◌, ◌<◌, Bool, true, false, ◌||◌, nat_lt, List, [], ◌∷◌, length, take, drop, get_or, filter, if◌then◌else◌}
use Rattle.dart_tokens.specs.Kinds.{Bracket, Round, Square, Curly, Interpolation, Sort, PlainName, GrammarName, AsynchronousName, BuiltInName, BuiltInType, ReservedWord, Number, StringPart, Opening, Closing, Mark, sort_of}
use Rattle.dart_tokens.specs.declared.grouped_token.GroupedToken.{GroupedToken as Token}

-- Groups.

-- How many groups of a text the token at a place lies in: those of the tokens before it that hold more tokens than stand between. A bracket doesn't lie in its own group.
abbrev pub groups_around : (place : ℕ) → (text : List Token) → ℕ
groups_around zero text = 0
groups_around (suc between) [] = 0
groups_around (suc between) (t ∷ ts) = (if nat_lt between t.width then 1 else 0) + groups_around between ts

-- for each token of a text whether it lies in more than 100 groups
pub record AreDeep (text : List Token) (deep : List Bool) : Type 0 where
  pub size : length deep ≡ length text
  pub each : (place : ℕ) → place < length text → get_or deep place false ≡ nat_lt 100 (groups_around place text)

-- one of so many places passes, from a first one on
abbrev pub any_place : (ℕ → Bool) → (first count : ℕ) → Bool
any_place c first zero = false
any_place c first (suc count) = c first || any_place c (suc first) count

-- a token of the segment lies in more than 100 groups of the text
abbrev pub is_deep : (text : List Token) → (first count : ℕ) → Bool
is_deep text = any_place (λ place. nat_lt 100 (groups_around place text))

-- Lexemes.

-- a bracket that is punctuation, and `}` behind an interpolation is; `${` is not
abbrev pub opens_with_punctuation : Bracket → Bool
opens_with_punctuation Round = true
opens_with_punctuation Square = true
opens_with_punctuation Curly = true
opens_with_punctuation Interpolation = false

-- tokens of the sort are punctuation
abbrev pub is_punctuation_sort : Sort → Bool
is_punctuation_sort PlainName = false
is_punctuation_sort GrammarName = false
is_punctuation_sort AsynchronousName = false
is_punctuation_sort BuiltInName = false
is_punctuation_sort BuiltInType = false
is_punctuation_sort ReservedWord = false
is_punctuation_sort Number = false
is_punctuation_sort StringPart = false
is_punctuation_sort (Opening bracket) = opens_with_punctuation bracket
is_punctuation_sort (Closing bracket) = true
is_punctuation_sort Mark = true

-- the token is punctuation
abbrev pub is_punctuation : Token → Bool
is_punctuation t = is_punctuation_sort (sort_of t.kind)

-- the tokens that lie in no group that begins among them, where the first so many do: the brackets of the outermost groups are among them
abbrev pub outside : ℕ → List Token → List Token
outside n [] = []
outside zero (t ∷ ts) = t ∷ outside t.width ts
outside (suc n) (t ∷ ts) = outside n ts

-- more than 100 lexemes of punctuation stand in the segment outside the groups in it
abbrev pub is_long : (segment : List Token) → Bool
is_long segment = nat_lt 100 (length (filter is_punctuation (outside 0 segment)))

-- a segment is nested too deep, or too long
abbrev pub is_nested : (text : List Token) → (first count : ℕ) → Bool
is_nested text first count = is_deep text first count || is_long (take count (drop first text))
