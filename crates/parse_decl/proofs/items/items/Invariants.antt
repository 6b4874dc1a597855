use Rattle.std.proofs.Common.{◌≡◌, ◌++◌}
use Rattle.readings.specs.Descent.{all_items, take_items_at}
use Rattle.grammar.specs.Statements.{segment, error_of}
use Rattle.grammar.specs.Descents.{lower}
use Rattle.grammar.specs.DeclarationDescents.{take_item}
use Rattle.parse_decl.proofs.items.items.Given as goal

abbrev pub invariant-loop-more : goal.invariant-loop-more
invariant-loop-more g l = record {
  reading : all_items (take_item l.in_core (lower (g.B.Below.room l.below)) (lower (g.C.Below.room l.inner))) segment error_of l.tokens
      ≡ l.list.items ++ take_items_at l.more (take_item l.in_core (lower (g.B.Below.room l.below)) (lower (g.C.Below.room l.inner))) segment error_of l.rest;
}

abbrev pub decreases-loop-more : goal.decreases-loop-more
decreases-loop-more g l = l.more
