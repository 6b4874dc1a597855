use Rattle.std.proofs.Common.{sym, ap, subst, ◌∙◌, arith, rules}
use Rattle.dart_tree.specs.Tree.{block, expression_statement, if_statement, part_of, trees_of, variable_statement, while_statement}
use Rattle.dart_tree.specs.Places.{place_of}
use Rattle.dart_tree.specs.View.{stmt_of}
use Rattle.judgement.specs.Surroundings.{Names}
use Rattle.judgement.specs.DeclaredNames.{names_declared}
use Rattle.judgement.specs.StatementRows.{scope_row}
use Rattle.judgement.specs.Judgement.{condition_of, run, run_all}
use Rattle.resolve.specs.Around.{around}
use Rattle.resolve.specs.Judged.{Evaluates, Gives}
use Rattle.resolve.proofs.Declarations.{next_run, of_statement_form}
use Rattle.resolve.proofs.Loops.{of_loop}
use Rattle.resolve.proofs.Saying.{said_nothing}
use Rattle.resolve.proofs.Sizes.{nodes_in-item}
use Rattle.resolve.proofs.judge.statements.+judge.Goals as goal

pub judge_statements-judge_statement-requires : goal.judge_statements-judge_statement-requires
judge_statements-judge_statement-requires t c =
    omega (arith, nodes_in-item c.args.statements.now c.loop-statement.statement-index c.statement-item.result c.loop-statement-test.true c.statement-item.is)

pub judge_statement-returns-in-Variables-clause-gives : goal.judge_statement-returns-in-Variables-clause-gives
judge_statement-returns-in-Variables-clause-gives t c =
    let s = around c.args.context c.args.names.now in
    of_statement_form c.judge_variables.result (λ after. after.value) c.args.found.now c.judge_variables.new.found s (variable_statement c.in-Variables.at c.in-Variables.variables) c.args.statement.now c.args.before.now.value
    (ap stmt_of (sym c.in-Variables.is ∙ c.deref.ensures) ∙ c.statement.view_is)
    c.judge_variables.ensures

pub judge_statement-returns-in-Expression-clause-gives : goal.judge_statement-returns-in-Expression-clause-gives
judge_statement-returns-in-Expression-clause-gives t c =
    let s = around c.args.context c.args.names.now in
    of_statement_form c.judge_effect.result (λ after. after.value) c.args.found.now c.judge_effect.new.found s (expression_statement c.in-Expression.at (part_of c.in-Expression.value)) c.args.statement.now c.args.before.now.value
    (ap stmt_of (sym c.in-Expression.is ∙ c.deref.ensures) ∙ c.statement.view_is)
    c.judge_effect.ensures

pub judge_statement-returns-in-If-clause-gives : goal.judge_statement-returns-in-If-clause-gives
judge_statement-returns-in-If-clause-gives t c =
    let s = around c.args.context c.args.names.now in
    of_statement_form c.judge_if.result (λ after. after.value) c.args.found.now c.judge_if.new.found s (if_statement c.in-If.at c.in-If.condition c.in-If.then_branch (part_of c.in-If.else_branch)) c.args.statement.now c.args.before.now.value
    (ap stmt_of (sym c.in-If.is ∙ c.deref.ensures) ∙ c.statement.view_is)
    c.judge_if.ensures.gives

pub judge_statement-returns-in-While-clause-gives : goal.judge_statement-returns-in-While-clause-gives
judge_statement-returns-in-While-clause-gives t c =
    let s = around c.args.context c.args.names.now in
    of_statement_form c.judge_while.result (λ after. after.value) c.args.found.now c.judge_while.new.found s (while_statement c.in-While.at c.in-While.condition c.in-While.body) c.args.statement.now c.args.before.now.value
    (ap stmt_of (sym c.in-While.is ∙ c.deref.ensures) ∙ c.statement.view_is)
    c.judge_while.ensures.gives

pub judge_statement-returns-in-Block-clause-gives : goal.judge_statement-returns-in-Block-clause-gives
judge_statement-returns-in-Block-clause-gives t c =
    let s = around c.args.context c.args.names.now in
    of_statement_form c.judge_block.result (λ after. after.value) c.args.found.now c.judge_block.new.found s (block c.in-Block.at (trees_of c.deref-in-Block.result.now)) c.args.statement.now c.args.before.now.value
    (ap (λ ts. block c.in-Block.at (trees_of ts)) c.deref-in-Block.ensures.value ∙ ap stmt_of (sym c.in-Block.is ∙ c.deref.ensures) ∙ c.statement.view_is)
    c.judge_block.ensures.gives

pub judge_statements-loop-statement-preserved : goal.judge_statements-loop-statement-preserved
judge_statements-loop-statement-preserved t c =
    let s = around c.args.context c.args.names.now in (
      c.in_ok-after-2.ensures.names ∙ c.loop-statement.invariant.0,
      next_run c.args.found.now c.loop-statement.found c.judge_statement.new.found (run_all s (trees_of c.args.statements.now) c.args.before.now.value) s c.args.statements.now c.loop-statement.statement-index c.statement-item.result c.loop-statement.after.value c.in_ok-after-2.after.value
          c.loop-statement-test.true
          c.statement-item.is
          c.loop-statement.invariant.1
          (subst
          (λ (names : Names). Gives c.loop-statement.found c.judge_statement.new.found c.in_ok-after-2.after.value (run (around c.args.context names) c.statement-item.result c.loop-statement.after.value))
          c.loop-statement.invariant.0
          c.in_ok-after-2.ensures.gives),
    )

pub judge_while-returns-clause-gives : goal.judge_while-returns-clause-gives
judge_while-returns-clause-gives t c =
    let s = around c.args.context c.args.names.now in
    let condition = c.args.condition.now in
    let body = c.args.body.now in
    let m = c.args.before.now.value in
    let tested = c.in_ok-tested.tested in
    of_loop c.args.found.now c.judge_condition.new.found c.judge_scope.new.found c.say.new.found s c.args.at condition body m c.in_ok-head.head.value c.in_ok-judge_scope.field-0.value c.in_ok-after.after.value tested
    c.in_ok-head.ensures.head
    (subst
    (λ (names : Names). Evaluates c.args.found.now c.judge_condition.new.found tested (place_of condition) (condition_of (around c.args.context names) condition c.in_ok-head.head.value))
    c.in_ok-head.ensures.names
    c.in_ok-tested.ensures)
    (subst
    (λ (names : Names). Gives c.judge_condition.new.found c.judge_scope.new.found c.in_ok-judge_scope.field-0.value (scope_row (around c.args.context names) (names_declared body) (λ inner. run inner body) tested.when_true.value))
    c.in_ok-head.ensures.names
    c.in_ok-judge_scope.ensures.gives)
    c.in_ok-after.ensures.cases
    c.in_ok-say.ensures.faults
    c.in_ok-say.ensures.nodes

pub judge_statement-returns-in_default : goal.judge_statement-returns-in_default
judge_statement-returns-in_default t c = search (rules, said_nothing)
