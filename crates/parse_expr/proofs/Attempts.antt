-- What is kept of operands behind a statement that could not be read.
use Rattle.std.proofs.Common.{◌≡◌, ℕ, suc, ◌-◌, ◌≤◌, List, Option, Some, None, drop, refl, sym, subst}
use Rattle.dart_tokens.specs.declared.grouped_token.GroupedToken.{GroupedToken as Token}
use Rattle.grammar.specs.Statements.{segment}
use Rattle.last_parts.specs.LastParts.{last_self, last_twice}
use Rattle.parse_operators.specs.Ends.{Places}
use Rattle.parse_expr.specs.Attempts.{Serves}

-- it serves from where it begins
pub serves_from : (known : Places) (room : ℕ) (ts : List Token) → 2 ≤ room → known ≡ record { tokens = ts; room = room - 2 } → Serves (Some known) room ts
serves_from known room ts enough e = subst (λ (k : Places). Serves (Some k) room ts) (sym e) (enough, refl, last_self ts)

-- it serves behind a segment that is passed over
pub serves_on : (known : Option Places) (room : ℕ) (ts us : List Token) → Serves known room ts → us ≡ drop (suc (segment ts)) ts → Serves known room us
serves_on None room ts us s e = tt
serves_on (Some known) room ts us s e = (s.0, s.1, last_twice {us = ts} {vs = us} {ts = known.tokens} s.2 (suc (segment ts), e))
