use Rattle.std.proofs.Common.{◌≡◌, fold, take}
use Rattle.core_ir.specs.PointFacts.{put}
use Rattle.elaborate.specs.Known.{facts_of_locals}
use Rattle.elaborate.proofs.builder.Builder.put_locals.Given as goal

-- those of the locals before the place have been put
abbrev pub invariant-loop-place : goal.invariant-loop-place
invariant-loop-place l = l.facts ≡ record l.initial.facts { listed = fold put l.initial.facts.listed (facts_of_locals l.said (take l.place l.flow.locals)) }
