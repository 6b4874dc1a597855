use Rattle.grammar.proofs.Agreement.{all_parse}
use Rattle.grammar.proofs.laws.readings_are_single.Goals as goal

pub returns : goal.returns
returns c = record {
  written = λ room tokens. (all_parse room).written.alone tokens;
  tested = λ room setting tokens. ((all_parse room).tested setting).alone tokens;
  constructed = λ room tokens. (all_parse room).constructed.alone tokens;
  named = λ room tokens. (all_parse room).named.alone tokens;
  expression = λ room setting tokens. ((all_parse room).expression setting).alone tokens;
  operand = λ room setting above tokens. ((all_parse room).operand setting above).alone tokens;
  unary = λ room setting tokens. ((all_parse room).unary setting).alone tokens;
  section = λ room setting tokens. ((all_parse room).section setting).alone tokens;
  simple = λ room tokens. (all_parse room).simple.alone tokens;
  block = λ room tokens. (all_parse room).block.alone tokens;
  statement = λ room tokens. (all_parse room).statement.alone tokens;
}
