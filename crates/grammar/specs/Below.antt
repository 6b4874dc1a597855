-- What the rules read where so many nodes may lie on a way down, the node itself among them.
use Rattle.std.specs.Prelude.{ℕ, zero, suc, []}
use Rattle.readings.specs.Readings.{longest_of}
use Rattle.dart_tokens.specs.declared.token.Kind.TheVariants as kind
use Rattle.grammar.specs.declared.level.Setting.TheVariants as setting
use Rattle.grammar.specs.Tokens.{heads, anything}
use Rattle.grammar.specs.Types.{Below, heads_field, plain_type_rule, type_rule}
use Rattle.grammar.specs.Expressions.{heads_nullable, simple_rule, unary_rule, operand_rule, section_head_rule, section_rule, expression_rule}
use Rattle.grammar.specs.Statements.{block_rule, statement_rule}

-- Each type, expression, operand, section and statement reads its longest. Where no node may lie, a section has its name alone.
unfoldable pub below : ℕ → Below
below zero = record {
  written = λ ts. [];
  tested = λ m ts. [];
  constructed = λ ts. [];
  named = λ ts. [];
  expression = λ m ts. [];
  operand = λ m above ts. [];
  unary = λ m ts. [];
  section = λ m. longest_of (section_head_rule (λ ts. []));
  simple = λ ts. [];
  block = λ ts. [];
  statement = λ ts. [];
}
below (suc n) = record {
  written = longest_of (type_rule n (below n) (heads kind.Question) anything);
  tested = λ m. longest_of (type_rule n (below n) (heads_nullable m) anything);
  constructed = longest_of (plain_type_rule (below n) (heads kind.Question));
  named = longest_of (type_rule n (below n) (heads kind.Question) heads_field);
  expression = λ m. expression_rule n m (below n);
  operand = λ m above. operand_rule n m (below n) above;
  unary = λ m. longest_of (unary_rule n m (below n));
  section = λ m. longest_of (section_rule n m (below n) (expression_rule n setting.Plain (below n)));
  simple = longest_of simple_rule;
  block = longest_of block_rule;
  statement = statement_rule (below n);
}
