use Rattle.std.proofs.Common.{sym, ◌∙◌}
use Rattle.type_infer.proofs.WaySteps.{stands_there, stands_beside}
use Rattle.type_infer.proofs.ways.standing_at_mark.Goals as goal

pub returns-else-is_plain : goal.returns-else-is_plain
returns-else-is_plain c = stands_beside c.args.rows.now.table c.args.side c.args.bare.now c.args.other.now c.in-AtLeast.is (sym c.is_plain.ensures ∙ c.if-is_plain.false)

pub returns-in-AtMost : goal.returns-in-AtMost
returns-in-AtMost c = stands_there c.args.rows.now.table c.args.side c.args.bare.now c.args.other.now c.in-AtMost.is
