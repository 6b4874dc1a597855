-- Heights, and what else is known of parts.
use Rattle.std.proofs.Common.{◌≡◌, ℕ, ◌<◌, ◌≤◌, ◌++◌, true, false, List, [], ◌∷◌, length, Option, is_some, refl, sym, ap, ◌∙◌, arith}
use Rattle.std.proofs.lemmas.Bool.Decides.{nat_tests}
use Rattle.dart_tree.specs.Tree.{Tree, trees_of, part_of}
use Rattle.dart_tree.specs.View.{for_initializer_of}
use Rattle.dart_tree.specs.declared.statements.ForInitializer.{ForInitializer}
use Rattle.dart_tree.specs.declared.statements.ForInitializer.TheVariants as for_initializer
use Rattle.dart_tokens.specs.declared.grouped_token.GroupedToken.{GroupedToken as Token}
use Rattle.dart_tree.specs.Heights.{higher, height, heights}
use Rattle.grammar.specs.Expressions.{string_text_of}
use Rattle.grammar.specs.Statements.{has_clause}
use Rattle.parse_leaves.specs.Parts.{initial_of}

pub higher_zero : (a : ℕ) → higher a 0 ≡ a
higher_zero a = grind (arith, nat_tests)

pub higher_twice : (a b c : ℕ) → higher (higher a b) c ≡ higher a (higher b c)
higher_twice a b c = grind (arith, nat_tests)

pub zero_higher : (a : ℕ) → higher 0 a ≡ a
zero_higher a = grind (arith, nat_tests)

pub higher_within : (a b n : ℕ) → a ≤ n → b ≤ n → higher a b ≤ n
higher_within a b n h k = grind (arith, nat_tests)

-- a list with one more behind it
pub heights_behind : (ts : List Tree) (t : Tree) → heights (trees_of (ts ++ t ∷ [])) ≡ higher (heights (trees_of ts)) (height t)
heights_behind [] t = higher_zero (height t) ∙ sym (zero_higher (height t))
heights_behind (u ∷ ts) t = ap (higher (height u)) (heights_behind ts t) ∙ sym (higher_twice (height u) (heights (trees_of ts)) (height t))

-- one list behind another
pub heights_append : (ts us : List Tree) → heights (trees_of (ts ++ us)) ≡ higher (heights (trees_of ts)) (heights (trees_of us))
heights_append [] us = sym (zero_higher (heights (trees_of us)))
heights_append (t ∷ ts) us = ap (higher (height t)) (heights_append ts us) ∙ sym (higher_twice (height t) (heights (trees_of ts)) (heights (trees_of us)))

-- parts between the ends of a string
pub heights_ended : (t u : Token) (ts : List Tree) → heights (trees_of (string_text_of t ∷ (ts ++ string_text_of u ∷ []))) ≡ heights (trees_of ts)
heights_ended t u ts = zero_higher (heights (trees_of (ts ++ string_text_of u ∷ []))) ∙ heights_behind ts (string_text_of u) ∙ higher_zero (heights (trees_of ts))

pub initial_part : (i : ForInitializer) → for_initializer_of i ≡ part_of (initial_of i)
initial_part for_initializer.Absent = refl
initial_part (for_initializer.Variables variables) = refl
initial_part (for_initializer.Expression value) = refl

-- Clauses of a `try`.

pub clause_missing : (word : Token) (body : Tree) (clauses : List Tree) (final : Option (Token × Tree)) → length clauses ≡ 0 → is_some final ≡ false → has_clause ((word, (body, clauses)), final) ≡ false
clause_missing word body [] final none e = e
clause_missing word body (c ∷ cs) final none e = absurd (omega (arith, none))

pub clause_there : (word : Token) (body : Tree) (clauses : List Tree) (final : Option (Token × Tree)) → 0 < length clauses → has_clause ((word, (body, clauses)), final) ≡ true
clause_there word body [] final some = absurd (omega (arith, some))
clause_there word body (c ∷ cs) final some = refl

pub finally_there : (word : Token) (body : Tree) (clauses : List Tree) (final : Option (Token × Tree)) → is_some final ≡ true → has_clause ((word, (body, clauses)), final) ≡ true
finally_there word body [] final e = e
finally_there word body (c ∷ cs) final e = refl
