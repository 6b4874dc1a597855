use Rattle.std.proofs.Common.{Option}
use Rattle.dart_types.specs.Ty.{Ty}
use Rattle.dart_types.specs.Measure.{deepness_of}
use Rattle.type_infer.specs.Ways.{GivesWay}
use Rattle.type_infer.proofs.ways.standing.Given as goal

-- what is left gives way as the whole does
abbrev pub invariant-loop-next : goal.invariant-loop-next
invariant-loop-next l = (last : Option Ty) → GivesWay l.rows.table l.side l.left last → GivesWay l.rows.table l.side l.other last

abbrev pub decreases-loop-next : goal.decreases-loop-next
decreases-loop-next l = deepness_of l.rows.table l.left
