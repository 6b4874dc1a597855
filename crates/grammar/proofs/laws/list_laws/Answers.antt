use Rattle.grammar.proofs.WholeLaws.{statements_found, statements_read}
use Rattle.grammar.proofs.laws.list_laws.Goals as goal

pub returns : goal.returns
returns c = record {
  items = statements_found;
  lists = statements_read;
}
