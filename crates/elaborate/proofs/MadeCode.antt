-- The code that is made of parts is that of the rows.
use Rattle.std.proofs.Common.{◌≡◌, ◌+◌, ◌*◌, ◌≤◌, List, [], ◌∷◌, length, map, get_or, Option, Some, None, Result, IfOk, refl, sym, ap, subst, ◌∙◌, arith}
use Rattle.std.specs.Option.{option_map_or}
use Rattle.std.proofs.lemmas.Result.{IfOk-weaker}
use Rattle.dart_tree.specs.Tree.{Tree, trees_of}
use Rattle.dart_tree.specs.Numbers.{nodes_in}
use Rattle.dart_tree.specs.Places.{place_of}
use Rattle.dart_tree.specs.declared.names.Name.{Name}
use Rattle.dart_tree.specs.declared.operators.BinaryOperatorKind.{BinaryOperatorKind}
use Rattle.dart_tree.specs.declared.places.Place.{Place}
use Rattle.flow_model.specs.Flow.{FlowModel}
use Rattle.flow_model.specs.declared.locals.LocalId.{LocalId}
use Rattle.judgement.specs.DeclaredNames.{local_of}
use Rattle.core_ir.specs.PointFacts.{PointFacts}
use Rattle.core_ir.specs.declared.points.Operand.{Operand}
use Rattle.core_ir.specs.declared.points.Operand.TheVariants.{Slot}
use Rattle.core_ir.specs.declared.points.Point.{Point}
use Rattle.core_ir.specs.declared.points.PointId.{PointId}
use Rattle.core_ir.specs.declared.points.SlotId.{SlotId}
use Rattle.core_ir.specs.declared.points.Term.TheVariants.{End}
use Rattle.core_emit.specs.Code.{Code, in_order, nothing, sequence}
use Rattle.core_emit.specs.Emitted.{Made, emit, made, size_of, with_point}
use Rattle.core_emit.specs.declared.steps.Step.{Step}
use Rattle.core_emit.specs.declared.steps.Step.TheVariants as step
use Rattle.elaborate.specs.Sources.{Sources, known_before, known_behind, slot_at, slot_of_local}
use Rattle.elaborate.specs.Known.{facts, holding}
use Rattle.elaborate.specs.Rows.{all_declared, assignment_row, code_of, declared_code, initialized_row, name_row, one_printed, operand_of, operator_row, operator_step, print_row, printed, statement_code, statements_code, step_at}
use Rattle.elaborate.specs.Elaborated.{function_code, main_function, points_of}
use Rattle.elaborate.proofs.Sizes.{size_of-function_code}

-- code that is made is other code that is the same
pub made_as : {E : Type 0} (r : Result Code E) {code same : Code} → code ≡ same → IfOk r (λ made. made ≡ code) → IfOk r (λ made. made ≡ same)
made_as r {code} {same} is given = IfOk-weaker r (λ made. made ≡ code) (λ made. made ≡ same) (λ made e. e ∙ is) given

-- Lists.

pub statements_in_order : (x : Sources) (ts : List Tree) → in_order (map (statement_code x) ts) ≡ statements_code x (trees_of ts)
statements_in_order x [] = refl
statements_in_order x (t ∷ ts) = ap (sequence (statement_code x t)) (statements_in_order x ts)

pub variables_in_order : (x : Sources) (ts : List Tree) → in_order (map (declared_code x) ts) ≡ all_declared x (trees_of ts)
variables_in_order x [] = refl
variables_in_order x (t ∷ ts) = ap (sequence (declared_code x t)) (variables_in_order x ts)

-- no argument, or more than one
pub no_argument : (x : Sources) (at : Place) (values : List SlotId) (arguments : List Tree) → (length arguments ≡ 1 → ⊥) → nothing ≡ one_printed x at values (trees_of arguments)
no_argument x at values [] other = refl
no_argument x at values (first ∷ []) other = absurd (other refl)
no_argument x at values (first ∷ second ∷ rest) other = refl

-- the only tree of a list
only_tree : (ts : List Tree) (t : Tree) → length ts ≡ 1 → t ≡ get_or ts 0 t → ts ≡ t ∷ []
only_tree [] t one is = absurd (omega arith)
only_tree (first ∷ []) t one is = ap (λ (u : Tree). u ∷ []) (sym is)
only_tree (first ∷ second ∷ rest) t one is = absurd (omega arith)

-- one argument
pub one_argument : (x : Sources) (at : Place) (values : List SlotId) (arguments : List Tree) (first : Tree) → length arguments ≡ 1 → first ≡ get_or arguments 0 first
    → printed x at values first ≡ one_printed x at values (trees_of arguments)
one_argument x at values arguments first one is = sym (ap (λ (ts : List Tree). one_printed x at values (trees_of ts)) (only_tree arguments first one is))

-- Forms.

-- a name of a local
pub name_made : (x : Sources) (at : Place) (values : List SlotId) (m : FlowModel) (var : LocalId) (meant : Option LocalId) (to from : SlotId)
    → Some var ≡ meant → to ≡ slot_at x at → from ≡ slot_of_local x var → m ≡ known_before x at
    → step_at x at m values (step.Store to (Slot from)) ≡ name_row x at values meant
name_made x at values m var meant to from means to_is from_is known =
    ap (λ (n : FlowModel). step_at x at n values (step.Store to (Slot from))) known
    ∙ ap (λ (t : SlotId). step_at x at (known_before x at) values (step.Store t (Slot from))) to_is
    ∙ ap (λ (t : SlotId). step_at x at (known_before x at) values (step.Store (slot_at x at) (Slot t))) from_is
    ∙ ap (name_row x at values) means

-- the write of a value to a local
pub write_made : (x : Sources) (at : Place) (values held : List SlotId) (m : FlowModel) (var : LocalId) (meant : Option LocalId) (to : SlotId) (value : Operand)
    → Some var ≡ meant → to ≡ slot_of_local x var → held ≡ holding values value
    → step_at x at m held (step.Store to value) ≡ assignment_row x at m values meant value
write_made x at values held m var meant to value means to_is held_is =
    ap (λ (vs : List SlotId). step_at x at m vs (step.Store to value)) held_is
    ∙ ap (λ (t : SlotId). step_at x at m (holding values value) (step.Store t value)) to_is
    ∙ ap (λ (o : Option LocalId). assignment_row x at m values o value) means

-- an operator
pub operator_made : (x : Sources) (at : Place) (values held : List SlotId) (m : FlowModel) (kind : BinaryOperatorKind) (left right : Tree) (one other : Operand) (first second own rest : Code)
    → one ≡ operand_of x left → other ≡ operand_of x right → held ≡ holding values one → m ≡ known_behind x (place_of right)
    → first ≡ code_of x values left → second ≡ code_of x held right → own ≡ operator_row x at m values kind one other → rest ≡ sequence second own
    → sequence first rest ≡ sequence (code_of x values left) (sequence (code_of x (holding values (operand_of x left)) right) (operator_row x at (known_behind x (place_of right)) values kind (operand_of x left) (operand_of x right)))
operator_made x at values held m kind left right one other first second own rest one_is other_is held_is known first_is second_is own_is rest_is =
    let behind : second ≡ code_of x (holding values (operand_of x left)) right = second_is ∙ ap (λ (vs : List SlotId). code_of x vs right) (held_is ∙ ap (holding values) one_is) in
    let does : own ≡ operator_row x at (known_behind x (place_of right)) values kind (operand_of x left) (operand_of x right) =
    own_is
    ∙ ap (λ (n : FlowModel). operator_row x at n values kind one other) known
    ∙ ap (λ (o : Operand). operator_row x at (known_behind x (place_of right)) values kind o other) one_is
    ∙ ap (operator_row x at (known_behind x (place_of right)) values kind (operand_of x left)) other_is in
    ap (λ (code : Code). sequence code rest) first_is
    ∙ ap (sequence (code_of x values left)) (rest_is ∙ ap (λ (code : Code). sequence code own) behind ∙ ap (sequence (code_of x (holding values (operand_of x left)) right)) does)

-- what an operator does
pub operation_made : (x : Sources) (at : Place) (values held : List SlotId) (m : FlowModel) (kind : BinaryOperatorKind) (left right : Operand) (to : SlotId) (does : Step)
    → Some does ≡ operator_step kind to left right → to ≡ slot_at x at → held ≡ holding (holding values left) right
    → step_at x at m held does ≡ operator_row x at m values kind left right
operation_made x at values held m kind left right to does does_is to_is held_is =
    ap (λ (vs : List SlotId). step_at x at m vs does) held_is
    ∙ ap (λ (o : Option Step). option_map_or (step_at x at m (holding (holding values left) right)) o nothing) (does_is ∙ ap (λ (t : SlotId). operator_step kind t left right) to_is)

-- a call of `print`
pub print_made : (x : Sources) (at : Place) (values held : List SlotId) (m : FlowModel) (value : Tree) (from : Operand) (first own : Code)
    → from ≡ operand_of x value → held ≡ holding values from → m ≡ known_behind x (place_of value) → first ≡ code_of x values value → own ≡ step_at x at m held (step.Output from)
    → sequence first own ≡ sequence (code_of x values value) (print_row x at (known_behind x (place_of value)) values (operand_of x value))
print_made x at values held m value from first own from_is held_is known first_is own_is =
    ap (λ (code : Code). sequence code own) first_is
    ∙ ap (sequence (code_of x values value))
    (own_is
    ∙ ap (λ (vs : List SlotId). step_at x at m vs (step.Output from)) held_is
    ∙ ap (λ (n : FlowModel). print_row x at n values from) known
    ∙ ap (print_row x at (known_behind x (place_of value)) values) from_is)

-- a variable with its initializer
pub initialized_made : (x : Sources) (at : Place) (name : Name) (held : List SlotId) (m : FlowModel) (value : Tree) (from : Operand) (slot : SlotId) (var : LocalId) (first own : Code)
    → from ≡ operand_of x value → held ≡ holding [] from → m ≡ known_behind x (place_of value) → slot ≡ slot_of_local x var → var ≡ local_of name
    → first ≡ code_of x [] value → own ≡ step_at x at m held (step.Initialize slot from)
    → sequence first own ≡ sequence (code_of x [] value) (initialized_row x at name (known_behind x (place_of value)) (operand_of x value))
initialized_made x at name held m value from slot var first own from_is held_is known slot_is var_is first_is own_is =
    ap (λ (code : Code). sequence code own) first_is
    ∙ ap (sequence (code_of x [] value))
    (own_is
    ∙ ap (λ (vs : List SlotId). step_at x at m vs (step.Initialize slot from)) held_is
    ∙ ap (λ (s : SlotId). step_at x at m (holding [] from) (step.Initialize s from)) (slot_is ∙ ap (slot_of_local x) var_is)
    ∙ ap (λ (n : FlowModel). initialized_row x at name n from) known
    ∙ ap (initialized_row x at name (known_behind x (place_of value))) from_is)

-- The points of a function.
pub points_made : (x : Sources) (body : Tree) (code : Code) (known : PointFacts) (next : PointId) (old : List Point)
    → code ≡ function_code x body → known ≡ facts x (known_behind x (place_of body)) [] → made old next ≡ with_point main_function None known End []
    → emit main_function code next old ≡ points_of x body
points_made x body code known next old code_is known_is old_is =
    ap (λ (c : Code). emit main_function c next old) code_is
    ∙ ap (λ (end : Made). emit main_function (function_code x body) end.entry end.points) (old_is ∙ ap (λ (f : PointFacts). with_point main_function None f End []) known_is)

-- the end is the first point
pub end_first : (known : PointFacts) (entry : PointId) (old new : List Point) → old ≡ [] → made new entry ≡ with_point main_function None known End old → length new ≡ 1
end_first known entry old new none is = ap (λ (m : Made). length m.points) is ∙ ap (λ (ps : List Point). length (with_point main_function None known End ps).points) none

-- there are few others
pub code_few : (x : Sources) (body : Tree) (code : Code) → code ≡ function_code x body → size_of code ≤ 2 * nodes_in body + 1
code_few x body code is = subst (λ (c : Code). size_of c ≤ 2 * nodes_in body + 1) (sym is) (size_of-function_code x body)
