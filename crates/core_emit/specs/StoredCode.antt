-- How code is stored: the list of its marks, each behind those of its parts.
use Rattle.std.specs.Prelude.{◌≡◌, Bool, true, false, List, [], ◌∷◌, Option, ◌⊎◌, refl}
use Rattle.std.proofs.Common.{ap, ◌∙◌, inl, inr}
use Rattle.std.specs.Coded.{Coded, code_by, coded×, coded⊎, coded_bool, coded_list, coded_option}
use Rattle.core_ir.specs.PointFacts.{PointFacts, facts_code}
use Rattle.core_ir.specs.declared.points.Span.{Span}
use Rattle.core_ir.specs.contracts.points.Span as span
use Rattle.core_emit.specs.Code.{Code, nothing, leaf, sequence, choice, loop}
use Rattle.core_emit.specs.declared.steps.Step.{Step}
use Rattle.core_emit.specs.declared.steps.Test.{Test}
use Rattle.core_emit.specs.contracts.steps.Step as step
use Rattle.core_emit.specs.contracts.steps.Test as test

-- the mark of a leaf, of a choice and of a loop; of the others whether it is nothing
abbrev pub LeafMark : Type 0
LeafMark = Option Span × (PointFacts × Step)

abbrev pub ChoiceMark : Type 0
ChoiceMark = Option Span × (PointFacts × Test)

abbrev pub LoopMark : Type 0
LoopMark = Option Span × ((PointFacts × PointFacts) × Test)

abbrev pub Mark : Type 0
Mark = (LeafMark ⊎ ChoiceMark) ⊎ (LoopMark ⊎ Bool)

abbrev pub Marks : Type 0
Marks = List Mark

-- the marks of code, and then further ones
abbrev pub marks_of : Code → Marks → Marks
marks_of nothing ms = inr (inr true) ∷ ms
marks_of (leaf site facts step) ms = inl (inl (site, (facts, step))) ∷ ms
marks_of (sequence first second) ms = marks_of first (marks_of second (inr (inr false) ∷ ms))
marks_of (choice site facts test first second) ms = marks_of first (marks_of second (inl (inr (site, (facts, test))) ∷ ms))
marks_of (loop site head facts condition test body) ms = marks_of condition (marks_of body (inr (inl (site, ((head, facts), test))) ∷ ms))

-- what was read last, and what before it
abbrev pub top : List Code → Code
top [] = nothing
top (c ∷ cs) = c

abbrev pub below : List Code → List Code
below [] = []
below (c ∷ cs) = cs

-- what was read, the last first, after a mark
abbrev pub read_mark : Mark → List Code → List Code
read_mark (inl (inl m)) cs = leaf m.0 m.1.0 m.1.1 ∷ cs
read_mark (inl (inr m)) cs = choice m.0 m.1.0 m.1.1 (top (below cs)) (top cs) ∷ below (below cs)
read_mark (inr (inl m)) cs = loop m.0 m.1.0.0 m.1.0.1 (top (below cs)) m.1.1 (top cs) ∷ below (below cs)
read_mark (inr (inr true)) cs = nothing ∷ cs
read_mark (inr (inr false)) cs = sequence (top (below cs)) (top cs) ∷ below (below cs)

abbrev pub read : Marks → List Code → List Code
read [] cs = cs
read (m ∷ ms) cs = read ms (read_mark m cs)

-- reading the marks of code gives the code
pub read-marks_of : (c : Code) (ms : Marks) (cs : List Code) → read (marks_of c ms) cs ≡ read ms (c ∷ cs)
read-marks_of nothing ms cs = refl
read-marks_of (leaf site facts step) ms cs = refl
read-marks_of (sequence first second) ms cs = read-marks_of first _ _ ∙ read-marks_of second _ _
read-marks_of (choice site facts test first second) ms cs = read-marks_of first _ _ ∙ read-marks_of second _ _
read-marks_of (loop site head facts condition test body) ms cs = read-marks_of condition _ _ ∙ read-marks_of body _ _

abbrev pub code_in : Marks → Code
code_in ms = top (read ms [])

-- the marks of code give it back
pub code_in-marks_of : (c : Code) → code_in (marks_of c []) ≡ c
code_in-marks_of c = ap top (read-marks_of c [] [])

abbrev pub mark_code : Coded Mark
mark_code =
    coded⊎ (coded⊎ (coded× (coded_option span.the_row.coded) (coded× facts_code step.the_row.coded)) (coded× (coded_option span.the_row.coded) (coded× facts_code test.the_row.coded)))
    (coded⊎ (coded× (coded_option span.the_row.coded) (coded× (coded× facts_code facts_code) test.the_row.coded)) coded_bool)

abbrev pub code_code : Coded Code
code_code = code_by Marks (coded_list mark_code) (λ c. marks_of c []) code_in code_in-marks_of
