use Rattle.std.proofs.Common.{◌≡◌}
use Rattle.readings.specs.Elements.{preceded}
use Rattle.grammar.specs.DeclarationDescents.{take_combinator}
use Rattle.readings.specs.Descent.{take_many, take_at_most}
use Rattle.parse_decl.proofs.directives.combinators.Given as goal

abbrev pub invariant-loop-more : goal.invariant-loop-more
invariant-loop-more l = take_many take_combinator l.tokens ≡ preceded l.list.items (take_at_most l.more take_combinator l.rest)

abbrev pub decreases-loop-more : goal.decreases-loop-more
decreases-loop-more l = l.more
