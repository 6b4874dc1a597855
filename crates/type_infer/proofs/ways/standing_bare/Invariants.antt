use Rattle.std.proofs.Common.{Option, true}
use Rattle.dart_types.specs.Ty.{Ty}
use Rattle.dart_types.specs.Measure.{deepness_of}
use Rattle.type_infer.specs.Ways.{WayAtMark}
use Rattle.type_infer.proofs.ways.standing_bare.Given as goal

-- what is left gives way as the whole does
abbrev pub invariant-loop-last : goal.invariant-loop-last
invariant-loop-last l = (last : Option Ty) → WayAtMark l.rows.table true l.left last → WayAtMark l.rows.table true l.other last

abbrev pub decreases-loop-last : goal.decreases-loop-last
decreases-loop-last l = deepness_of l.rows.table l.left
