-- The ends of a string add nothing to its height.
use Rattle.parse_operands.proofs.Ends.{heights_with_ends}
use Rattle.parse_operands.proofs.strings.ended_string.Goals as goal

pub returns-clause-deep : goal.returns-clause-deep
returns-clause-deep c = heights_with_ends c.args.opening c.args.closing c.args.parts.items c.in_ok-elements.elements.items c.in_ok-elements.ensures.reading
