-- Tokens one behind the other.
use Rattle.std.specs.Prelude.{◌≡◌, ◌<◌, ◌≤◌, ℕ, List, [], ◌∷◌, Some, All, slice_get}
use Rattle.readings.specs.Leading.{Each}
use Rattle.dart_tokens.specs.declared.token.Token.{Token as TextToken}
use Rattle.dart_tokens.specs.declared.grouped_token.GroupedToken.{GroupedToken as Token}
use Rattle.dart_tokens.specs.Read.{past}

-- each takes a code unit at least, and ends before any later one begins, or right there
abbrev pub Rise : List Token → Type 0
Rise [] = Unit {0}
Rise (t ∷ ts) = (t.start < t.end) × (Each (λ u. t.end ≤ u.start) ts × Rise ts)

-- a group lies in what is passed to come behind it
abbrev pub HoldGroups : List Token → Type 0
HoldGroups ts = Each (λ t. t.width ≤ past t) ts

-- so of the tokens of a text
abbrev pub TextRises : List TextToken → Type 0
TextRises ts =
    All (λ t. t.start < t.end) ts
    × ((first second : ℕ) (one other : TextToken) → first < second → slice_get ts first ≡ Some one → slice_get ts second ≡ Some other → one.end ≤ other.start)
