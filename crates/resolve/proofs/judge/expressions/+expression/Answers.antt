use Rattle.std.proofs.Common.{◌≡◌, [], ◌∷◌, length, None, refl, sym, ap, ◌∙◌, option_copied, arith, rules}
use denote.Enum.Bare.{same_true, same_false}
use Rattle.dart_tree.specs.Tree.{assignment, binary_expression, call, part_of}
use Rattle.dart_tree.specs.Places.{place_of}
use Rattle.dart_tree.specs.View.{expr_of}
use Rattle.dart_tree.specs.contracts.operators.BinaryOperatorKind.{the_type}
use Rattle.dart_tree.specs.declared.operators.BinaryOperatorKind.TheVariants.{NotEqual}
use Rattle.dart_types.specs.Ty.{invalid}
use Rattle.judgement.specs.ExpressionRows.{parameter_of}
use Rattle.judgement.specs.Judgement.{compared_local, evaluate}
use Rattle.resolve.specs.Points.{known, surroundings}
use Rattle.resolve.proofs.Forms.{of_arguments, of_form, of_integer, of_other_arguments, of_parenthesis}
use Rattle.resolve.proofs.Operators.{of_difference, of_operation}
use Rattle.resolve.proofs.Parts.{only_part}
use Rattle.resolve.proofs.Saying.{said_nothing}
use Rattle.resolve.proofs.judge.expressions.+expression.Goals as goal

pub judge_form-returns-in-Integer : goal.judge_form-returns-in-Integer
judge_form-returns-in-Integer t c =
    let s = surroundings c.args.point in
    let now = record c.args.found.now { faults = c.judge_integer.new.faults } in
    of_integer c.judge_integer.result c.args.found.now now s c.args.expression.now c.in-Integer.at c.in-Integer.word (option_copied c.args.wanted) (known c.args.point)
    (ap expr_of (sym c.in-Integer.is ∙ c.deref.ensures) ∙ c.expression.view_is)
    refl
    c.judge_integer.ensures

pub judge_form-returns-in_ok-typed-in-Parenthesis : goal.judge_form-returns-in_ok-typed-in-Parenthesis
judge_form-returns-in_ok-typed-in-Parenthesis t c =
    let s = surroundings c.args.point in
    of_parenthesis _ s c.args.expression.now c.in-Parenthesis.inner c.in-Parenthesis.at (option_copied c.args.wanted) (known c.args.point)
    (ap expr_of (sym c.in-Parenthesis.is ∙ c.deref.ensures) ∙ c.expression.view_is)
    refl
    refl
    c.in_ok-typed-in-Parenthesis.ensures

pub judge_form-returns-in-Binary : goal.judge_form-returns-in-Binary
judge_form-returns-in-Binary t c =
    let s = surroundings c.args.point in
    of_form c.judge_operator.result c.args.found.now c.judge_operator.new.found s (binary_expression c.in-Binary.at c.in-Binary.operator c.in-Binary.left c.in-Binary.right) c.args.expression.now (option_copied c.args.wanted) (known c.args.point)
    (ap expr_of (sym c.in-Binary.is ∙ c.deref.ensures) ∙ c.expression.view_is)
    c.judge_operator.ensures

pub judge_form-returns-in-Assignment : goal.judge_form-returns-in-Assignment
judge_form-returns-in-Assignment t c =
    let s = surroundings c.args.point in
    of_form c.judge_assignment.result c.args.found.now c.judge_assignment.new.found s (assignment c.in-Assignment.at c.in-Assignment.operator c.in-Assignment.target c.in-Assignment.value) c.args.expression.now (option_copied c.args.wanted) (known c.args.point)
    (ap expr_of (sym c.in-Assignment.is ∙ c.deref.ensures) ∙ c.expression.view_is)
    c.judge_assignment.ensures

pub judge_form-returns-in-Call : goal.judge_form-returns-in-Call
judge_form-returns-in-Call t c =
    let s = surroundings c.args.point in
    of_form c.judge_call.result c.args.found.now c.judge_call.new.found s (call c.in-Call.at c.in-Call.callee (part_of c.in-Call.type_arguments) c.in-Call.arguments) c.args.expression.now (option_copied c.args.wanted) (known c.args.point)
    (ap expr_of (sym c.in-Call.is ∙ c.deref.ensures) ∙ c.expression.view_is)
    (c.judge_call.ensures (part_of c.in-Call.type_arguments))

pub judge_operator-returns-then-eq : goal.judge_operator-returns-then-eq
judge_operator-returns-then-eq t c =
    let s = surroundings c.args.point in
    let left = c.args.left.now in
    let right = c.args.right.now in
    of_difference c.differ.result c.args.point.context.rows.now.table c.args.operator c.args.at (place_of left) (place_of right) (compared_local s left right) (evaluate s left None (known c.args.point)) (evaluate s right) c.args.found.now c.judge_expression.new.found c.judge_expression-then-eq.new.found c.in_ok-first.first c.in_ok-second.second c.compared_local-compared.result
    (same_true the_type tt c.args.operator.kind NotEqual (sym c.if-eq.ensures))
    c.compared_local-compared.ensures
    c.in_ok-first.ensures
    c.in_ok-second.ensures
    c.differ.ensures

pub judge_operator-returns : goal.judge_operator-returns
judge_operator-returns t c =
    let s = surroundings c.args.point in
    let left = c.args.left.now in
    let right = c.args.right.now in
    let behind = c.judge_expression-2.new.found in
    of_operation c.operate.result c.args.point.context.rows.now.table c.args.operator c.args.at (place_of left) (place_of right) (compared_local s left right) (evaluate s left None (known c.args.point)) (evaluate s right) c.args.found.now c.judge_expression.new.found behind (record behind { faults = c.operate.new.faults }) c.in_ok-first.first c.in_ok-second-2.second (option_copied c.parameter_of-wanted.result)
    (same_false the_type c.args.operator.kind NotEqual (sym c.if-eq.ensures))
    (c.parameter_of-wanted.ensures ∙ ap parameter_of c.in_ok-operation.ensures)
    c.in_ok-first.ensures
    c.in_ok-second-2.ensures
    refl
    c.operate.ensures

pub judge_printed-returns-then-arguments-eq1 : goal.judge_printed-returns-then-arguments-eq1
judge_printed-returns-then-arguments-eq1 t c =
    let s = surroundings c.args.point in
    let one = c.if-arguments-eq1.true in
    of_arguments c.judge_argument.result c.args.found.now c.judge_argument.new.found s c.args.at c.args.arguments.now (c.index-arguments-0.result ∷ []) (known c.args.point)
    (only_part c.args.arguments.now c.index-arguments-0.result (omega (arith, one)) (omega (arith, one)) c.index-arguments-0.is)
    c.judge_argument.ensures

pub judge_printed-returns : goal.judge_printed-returns
judge_printed-returns t c =
    let s = surroundings c.args.point in
    let other : length c.args.arguments.now ≡ 1 → ⊥ = λ one. omega (arith, one, c.if-arguments-eq1.false) in
    of_other_arguments c.unjudged.result c.args.found.now s c.args.at c.args.arguments.now (known c.args.point) (known c.args.point) invalid
    other
    refl
    refl
    c.unjudged.ensures.row
    c.unjudged.ensures.place

pub judge_call-returns-in_ok-clone-in-Class : goal.judge_call-returns-in_ok-clone-in-Class
judge_call-returns-in_ok-clone-in-Class t c = search (rules, said_nothing)

pub judge_call-returns-in_ok-clone-in-Other : goal.judge_call-returns-in_ok-clone-in-Other
judge_call-returns-in_ok-clone-in-Other t c = search (rules, said_nothing)

pub judge_form-returns-in-Null : goal.judge_form-returns-in-Null
judge_form-returns-in-Null t c = search (rules, said_nothing)

pub judge_form-returns-in_ok-clone-in_default : goal.judge_form-returns-in_ok-clone-in_default
judge_form-returns-in_ok-clone-in_default t c = search (rules, said_nothing)
