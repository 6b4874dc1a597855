use Rattle.std.proofs.Common.{◌≡◌, fold, map, take}
use Rattle.core_ir.specs.PointFacts.{put}
use Rattle.elaborate.specs.Known.{fact_of_value}
use Rattle.elaborate.proofs.builder.Builder.put_values.Given as goal

-- those of the values before the index have been put
abbrev pub invariant-loop-slot : goal.invariant-loop-slot
invariant-loop-slot l = l.facts ≡ record l.initial.facts { listed = fold put l.initial.facts.listed (map fact_of_value (take l.slot-index l.values)) }
