use Rattle.readings.specs.Longest.{parses_longest}
use Rattle.readings.specs.Combinators.{parses_sole}
use Rattle.grammar.specs.Below.{below}
use Rattle.grammar.specs.Descents.{lower}
use Rattle.grammar.proofs.TypesParse.{parameter_list_parses}
use Rattle.grammar.proofs.Agreement.{all_parse}
use Rattle.grammar.proofs.laws.parser_laws.Goals as goal

pub returns : goal.returns
returns c = record {
  written = λ room tokens. parses_longest (parses_sole (all_parse room).written) tokens;
  tested = λ room setting tokens. parses_longest (parses_sole ((all_parse room).tested setting)) tokens;
  constructed = λ room tokens. parses_longest (parses_sole (all_parse room).constructed) tokens;
  named = λ room tokens. parses_longest (parses_sole (all_parse room).named) tokens;
  expression = λ room setting tokens. parses_longest (parses_sole ((all_parse room).expression setting)) tokens;
  operand = λ room setting above tokens. parses_longest (parses_sole ((all_parse room).operand setting above)) tokens;
  unary = λ room setting tokens. parses_longest (parses_sole ((all_parse room).unary setting)) tokens;
  section = λ room setting tokens. parses_longest (parses_sole ((all_parse room).section setting)) tokens;
  simple = λ room tokens. parses_longest (parses_sole (all_parse room).simple) tokens;
  block = λ room tokens. parses_longest (parses_sole (all_parse room).block) tokens;
  statement = λ room tokens. parses_longest (parses_sole (all_parse room).statement) tokens;
  parameters = λ room tokens. parses_longest (parameter_list_parses (below room) (lower room) (all_parse room)) tokens;
}
