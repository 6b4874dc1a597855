use Rattle.grammar.proofs.DepthLaws.{lows}
use Rattle.grammar.proofs.WholeLaws.{lists_low, whole_low, whole_unit_low}
use Rattle.grammar.proofs.laws.trees_fit_their_room.Goals as goal

pub returns : goal.returns
returns c = record {
  written = λ room tokens. (lows room).written.each tokens;
  expression = λ room setting tokens. ((lows room).expression setting).each tokens;
  operand = λ room setting above tokens. ((lows room).operand setting above).each tokens;
  section = λ room setting tokens. ((lows room).section setting).each tokens;
  block = λ room tokens. (lows room).block.each tokens;
  statement = λ room tokens. (lows room).statement.each tokens;
  lists = lists_low;
  whole = whole_low;
  unit = whole_unit_low;
}
