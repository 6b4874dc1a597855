-- A `try`, of its parts.
use Rattle.std.proofs.Common.{◌≡◌, true, false, if◌then◌else◌, List, Option, Some, None, refl}
use Rattle.readings.specs.Readings.{Reading, tokens_read}
use Rattle.readings.specs.Descent.{Descent, bind, take_token, take_maybe, take_many, take_make, take_only, ◌▸◌}
use Rattle.dart_tokens.specs.declared.token.Kind.TheVariants as kind
use Rattle.dart_tree.specs.Tree.{Tree}
use Rattle.dart_tokens.specs.declared.grouped_token.GroupedToken.{GroupedToken as Token}
use Rattle.grammar.specs.Tokens.{is}
use Rattle.grammar.specs.Statements.{has_clause, try_of}
use Rattle.grammar.specs.Descents.{Lower, take_clause, take_try}

made_at : (p : Descent Token Token) (q : Descent Token Tree) (r : Descent Token (List Tree)) (s : Descent Token (Option (Token × Tree))) (ts us vs ws rest : List Token) (word : Token) (body : Tree) (clauses : List Tree) (final : Option (Token × Tree)) → p ts ≡ Some (word, us) → q us ≡ Some (body, vs) → r vs ≡ Some (clauses, ws) → s ws ≡ Some (final, rest) →
    has_clause ((word, (body, clauses)), final) ≡ true → take_make try_of (take_only has_clause ((p ▸ q ▸ r) ▸ s)) ts ≡ Some (try_of (tokens_read ts rest) ((word, (body, clauses)), final), rest)
made_at p q r s ts us vs ws rest word body clauses final e d c f h = rw (e, d, c, f, h) refl

missed_at : (p : Descent Token Token) (q : Descent Token Tree) (r : Descent Token (List Tree)) (s : Descent Token (Option (Token × Tree))) (ts us vs ws rest : List Token) (word : Token) (body : Tree) (clauses : List Tree) (final : Option (Token × Tree)) → p ts ≡ Some (word, us) → q us ≡ Some (body, vs) → r vs ≡ Some (clauses, ws) → s ws ≡ Some (final, rest) →
    has_clause ((word, (body, clauses)), final) ≡ false → take_make try_of (take_only has_clause ((p ▸ q ▸ r) ▸ s)) ts ≡ None
missed_at p q r s ts us vs ws rest word body clauses final e d c f h = rw (e, d, c, f, h) refl

-- there is a clause or a `finally`
pub try_made : (l : Lower) (ts us vs ws rest : List Token) (word : Token) (body : Tree) (clauses : List Tree) (final : Option (Token × Tree)) → take_token (is kind.Try) ts ≡ Some (word, us) → l.block us ≡ Some (body, vs) → take_many (take_clause l) vs ≡ Some (clauses, ws) →
    take_maybe (take_token (is kind.Finally) ▸ l.block) ws ≡ Some (final, rest) → has_clause ((word, (body, clauses)), final) ≡ true → take_try l ts ≡ Some (try_of (tokens_read ts rest) ((word, (body, clauses)), final), rest)
unfolding take_try
try_made l ts us vs ws rest word body clauses final e d c f h =
    made_at (take_token (is kind.Try)) l.block (take_many (take_clause l)) (take_maybe (take_token (is kind.Finally) ▸ l.block)) ts us vs ws rest word body clauses final e d c f h

-- there is none
pub try_missed : (l : Lower) (ts us vs ws rest : List Token) (word : Token) (body : Tree) (clauses : List Tree) (final : Option (Token × Tree)) → take_token (is kind.Try) ts ≡ Some (word, us) → l.block us ≡ Some (body, vs) → take_many (take_clause l) vs ≡ Some (clauses, ws) →
    take_maybe (take_token (is kind.Finally) ▸ l.block) ws ≡ Some (final, rest) → has_clause ((word, (body, clauses)), final) ≡ false → take_try l ts ≡ None
unfolding take_try
try_missed l ts us vs ws rest word body clauses final e d c f h =
    missed_at (take_token (is kind.Try)) l.block (take_many (take_clause l)) (take_maybe (take_token (is kind.Finally) ▸ l.block)) ts us vs ws rest word body clauses final e d c f h
