-- The parser's way finds each rule's first longest reading, by induction on the nodes that may lie on a way down.
use Rattle.std.proofs.Common.{ℕ, zero, suc, [], None, refl}
use Rattle.readings.specs.Readings.{Test, nothing}
use Rattle.readings.specs.Leading.{Within, Sole}
use Rattle.readings.specs.Combinators.{parses_none, parses_sole, sole_longest}
use Rattle.dart_tokens.specs.declared.token.Kind.TheVariants as kind
use Rattle.dart_tree.specs.Tree.{Tree}
use Rattle.dart_tokens.specs.declared.grouped_token.GroupedToken.{GroupedToken as Token}
use Rattle.grammar.specs.declared.level.Setting.TheVariants as setting
use Rattle.grammar.specs.Tokens.{is, heads, anything}
use Rattle.grammar.specs.Types.{heads_field}
use Rattle.grammar.specs.Expressions.{heads_nullable}
use Rattle.grammar.specs.Below.{below}
use Rattle.grammar.specs.Descents.{lower}
use Rattle.grammar.proofs.TypesParse.{AllParse, within_first, plain_type_parses, type_parses}
use Rattle.grammar.proofs.ExpressionsParse.{simple_parses, unary_parses, operand_sole, section_head_parses, section_parses, expression_sole}
use Rattle.grammar.proofs.StatementsParse.{block_parses, statement_sole}

none_sole : {A : Type 0} (f : Test Token) → Sole {T = Token} {A = A} f (λ ts. []) (λ ts. None)
none_sole f = record { alone = λ ts. refl; starts = λ ts e. refl; shrinks = λ ts. tt }

always : Within (heads kind.Question) (heads kind.Question)
always ts e = e

pub all_parse : (n : ℕ) → AllParse (below n) (lower n)
unfolding below lower
all_parse zero = record {
  written = none_sole _;
  tested = λ m. none_sole _;
  constructed = none_sole _;
  named = none_sole _;
  expression = λ m. none_sole _;
  operand = λ m above. none_sole _;
  unary = λ m. none_sole _;
  section = λ m. sole_longest (section_head_parses (λ ts. []) (λ ts. None) (parses_none {T = Token} {A = Tree} nothing nothing));
  simple = none_sole _;
  block = none_sole _;
  statement = none_sole _;
}
all_parse (suc n) =
    let a = all_parse n in
    record {
      written = sole_longest (type_parses n (below n) (lower n) a (heads kind.Question) anything always);
      tested = λ m. sole_longest (type_parses n (below n) (lower n) a (heads_nullable m) anything (within_first (is kind.Question) _));
      constructed = sole_longest (plain_type_parses (below n) (lower n) a (heads kind.Question) always);
      named = sole_longest (type_parses n (below n) (lower n) a (heads kind.Question) heads_field always);
      expression = λ m. expression_sole n m (below n) (lower n) a;
      operand = λ m above. operand_sole n m (below n) (lower n) a above;
      unary = λ m. sole_longest (unary_parses n m (below n) (lower n) a);
      section = λ m. sole_longest (section_parses n m (below n) (lower n) a _ _ (parses_sole (expression_sole n setting.Plain (below n) (lower n) a)));
      simple = sole_longest simple_parses;
      block = sole_longest block_parses;
      statement = statement_sole (below n) (lower n) a;
    }
