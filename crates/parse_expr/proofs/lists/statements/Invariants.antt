use Rattle.std.proofs.Common.{◌≡◌, ◌++◌}
use Rattle.readings.specs.Descent.{all_items, take_items_at}
use Rattle.grammar.specs.Statements.{segment, error_of}
use Rattle.grammar.specs.Descents.{lower}
use Rattle.parse_expr.specs.Attempts.{Serves}
use Rattle.parse_expr.proofs.lists.statements.Given as goal

abbrev pub invariant-loop-more : goal.invariant-loop-more
invariant-loop-more l = record {
  reading : all_items ((lower l.room).statement) segment error_of l.tokens ≡ l.list.items ++ take_items_at l.more ((lower l.room).statement) segment error_of l.rest;
  served : Serves l.known l.room l.rest;
}

abbrev pub decreases-loop-more : goal.decreases-loop-more
decreases-loop-more l = l.more
