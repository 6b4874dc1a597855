use Rattle.grammar.proofs.Examples.{read_expressions, read_statements, read_units, read_as_far}
use Rattle.grammar.proofs.laws.small_texts_are_read.Goals as goal

pub returns : goal.returns
returns c = record { expressions = read_expressions; statements = read_statements; units = read_units; room = read_as_far }
