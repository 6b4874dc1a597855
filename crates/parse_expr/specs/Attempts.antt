-- Statements that are tried behind one that could not be read.
use Rattle.std.specs.Prelude.{◌≡◌, ◌≤◌, ℕ, ◌-◌, List, Option, Some, None}
use Rattle.readings.specs.Readings.{Test, next, either}
use Rattle.dart_tokens.specs.declared.token.Kind.TheVariants as kind
use Rattle.dart_tokens.specs.declared.grouped_token.GroupedToken.{GroupedToken as Token}
use Rattle.grammar.specs.Tokens.{is_either}
use Rattle.grammar.specs.Descents.{begins_prefix}
use Rattle.last_parts.specs.LastParts.{IsLast}
use Rattle.parse_operators.specs.Ends.{Places}

-- an operand begins here, and no other statement than an expression does
abbrev pub heads_operand : Test Token
heads_operand = either (next begins_prefix) (next (is_either kind.OpenParenthesis kind.OpenBracket))

-- what is kept of operands, if anything is, is of a text of which these tokens are a last part, and of the room for an expression in a statement of these
abbrev pub Serves : Option Places → (room : ℕ) → List Token → Type 0
Serves None room ts = Unit {0}
Serves (Some known) room ts = (2 ≤ room) × (known.room ≡ room - 2) × IsLast ts known.tokens
