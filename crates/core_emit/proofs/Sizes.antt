-- Code is made into as many points as it has.
use Rattle.std.proofs.Common.{◌≡◌, ◌+◌, List, [], ◌∷◌, length, get_or, Option, arith, length-append}
use Rattle.std.proofs.lemmas.List.{length-set}
use Rattle.core_ir.specs.PointFacts.{PointFacts}
use Rattle.core_ir.specs.declared.points.FunctionId.{FunctionId}
use Rattle.core_ir.specs.declared.points.Point.{Point}
use Rattle.core_ir.specs.declared.points.PointId.{PointId}
use Rattle.core_ir.specs.declared.points.Span.{Span}
use Rattle.core_ir.specs.declared.points.Term.{Term}
use Rattle.core_ir.specs.declared.points.Term.TheVariants.{Goto, End}
use Rattle.core_check.specs.Known.{no_point}
use Rattle.core_emit.specs.Code.{Code, nothing, leaf, sequence, choice, loop, step_to, test_to}
use Rattle.core_emit.specs.Emitted.{with_point, emit, size_of}

module _ (id : FunctionId) where
  one_more : (site : Option Span) (facts : PointFacts) (term : Term) (old : List Point) → length (with_point id site facts term old).points ≡ length old + 1
  one_more site facts term old = length-append old (record { function = id; site = site; facts = facts; term = term } ∷ [])

  pub points_made : (code : Code) (next : PointId) (old : List Point) → length (emit id code next old).points ≡ length old + size_of code
  points_made nothing next old = omega arith
  points_made (leaf site facts step) next old = one_more site facts (step_to step next) old
  points_made (sequence first second) next old =
      let after = emit id second next old in
      let x = points_made first after.entry after.points in
      let y = points_made second next old in
      omega arith
  points_made (choice site facts test first second) next old =
      let other = emit id second next old in
      let one = emit id first next other.points in
      let x = points_made first next other.points in
      let y = points_made second next old in
      let z = one_more site facts (test_to test one.entry other.entry) one.points in
      omega arith
  points_made (loop site head facts condition test body) next old =
      let start = with_point id site head End old in
      let passes = emit id body start.entry start.points in
      let tests = with_point id site facts (test_to test passes.entry next) passes.points in
      let asks = emit id condition tests.entry tests.points in
      let s = one_more site head End old in
      let b = points_made body start.entry start.points in
      let t = one_more site facts (test_to test passes.entry next) passes.points in
      let c = points_made condition tests.entry tests.points in
      let told = length-set asks.points start.entry.0 (record (get_or asks.points start.entry.0 no_point) { term = Goto asks.entry }) in
      omega arith
