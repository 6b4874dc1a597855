-- Statements are steps, once what they declare is out of scope.
use Rattle.std.proofs.Common.{◌≡◌, true, [], ◌++◌, None}
use Rattle.std.specs.Prelude.{◌&&◌, ◌||◌}
use Rattle.std.proofs.lemmas.Bool.{and_parts}
use Rattle.dart_tree.specs.Tree.{Tree, Trees, Part, no_more, more, absent, present, block, variable_statement, expression_statement, if_statement, while_statement}
use Rattle.dart_tree.specs.declared.places.NodeId.{NodeId}
use Rattle.dart_tree.specs.declared.places.Place.{Place}
use Rattle.flow_model.specs.Flow.{FlowModel}
use Rattle.judgement.specs.Surroundings.{Surroundings}
use Rattle.judgement.specs.DeclaredNames.{locals_of, names_declared, names_in, within}
use Rattle.judgement.specs.StatementRows.{if_row, loop_head, scope_row, while_row}
use Rattle.judgement.specs.Judgement.{condition_of, declare_list, run, run_all, run_branch}
use Rattle.judgement.specs.Written.{written_in, written_in_all, written_in_branch, written_in_part}
use Rattle.built_forms.specs.Forms.{is_block, is_error, is_statement, is_value, are_statements, may_be_block}
use Rattle.rule_laws.specs.Plain.{HidesNothing, IsPlain}
use Rattle.rule_laws.specs.Steps.{IsStep, LoopTurns, Runs}
use Rattle.rule_laws.proofs.Jumps.{of_scope, of_statement}
use Rattle.rule_laws.proofs.ScopeNames.{block_is_statement, or_statement, statement_hides_nothing, statements_hide_nothing}
use Rattle.rule_laws.proofs.StepLaws.{StepLaws}
use Rattle.rule_laws.proofs.StepModels.{head_is_plain, step_none}
use Rattle.rule_laws.proofs.StepExpressions.{condition_steps}
use Rattle.rule_laws.proofs.StepDeclarations.{declaration_steps, no_first, no_second}
use Rattle.rule_laws.proofs.StepBranches.{effect_steps, if_steps, just_runs, row_runs, scope_faults, scope_steps, step_runs, then_runs, turn_implies, while_steps}

-- a block may stand where a statement may
stands : (s : Surroundings) (tree : Tree) → is_block s.outside tree ≡ true → (is_error tree || is_statement s.outside tree) ≡ true
stands s tree h = or_statement (is_error tree) (is_statement s.outside tree) (block_is_statement s.outside tree h)

-- what a statement is to be, or what derives nothing
abbrev StatementRuns : Surroundings → Tree → Type 0
StatementRuns s tree = (m : FlowModel) → HidesNothing s → (is_error tree || is_statement s.outside tree) ≡ true → (run s tree m).faults ≡ [] → IsPlain s.table m
    → Runs s.table m (run s tree m) (locals_of (names_declared tree)) (written_in s tree)

-- what statements are to be
abbrev StatementsRun : Surroundings → Trees → Type 0
StatementsRun s trees = (m : FlowModel) → HidesNothing s → are_statements s.outside trees ≡ true → (run_all s trees m).faults ≡ [] → IsPlain s.table m
    → Runs s.table m (run_all s trees m) (locals_of (names_in trees)) (written_in_all s trees)

-- what a branch is to be, or none
abbrev BranchRuns : Surroundings → Part → Type 0
BranchRuns s part = (m : FlowModel) → HidesNothing s → may_be_block s.outside part ≡ true → (run_branch s part m).faults ≡ [] → IsPlain s.table m
    → IsStep s.table m (run_branch s part m).after (written_in_branch s part)

module _ (s : Surroundings) (laws : StepLaws s.table) where
  -- a scope of a block
  pub closed : (tree : Tree) → StatementRuns (within s (names_declared tree)) tree → (m : FlowModel) → HidesNothing s → is_block s.outside tree ≡ true → (scope_row s (names_declared tree) (λ inner. run inner tree) m).faults ≡ [] → IsPlain s.table m
      → IsStep s.table m (scope_row s (names_declared tree) (λ inner. run inner tree) m).after (written_in (within s (names_declared tree)) tree)
  closed tree runs m free h none plain =
      let body = λ (inner : Surroundings). run inner tree in
      scope_steps s.table laws m s (names_declared tree) body (written_in (within s (names_declared tree)) tree)
      (runs m (statement_hides_nothing s tree (stands s tree h) free) (stands s tree h) (scope_faults s.table laws m s (names_declared tree) body none) plain)

  -- a block
  of_block : (statements : Trees) → StatementsRun (within s (names_in statements)) statements → (m : FlowModel) → HidesNothing s → are_statements s.outside statements ≡ true → (scope_row s (names_in statements) (λ inner. run_all inner statements) m).faults ≡ [] → IsPlain s.table m
      → IsStep s.table m (scope_row s (names_in statements) (λ inner. run_all inner statements) m).after (written_in_all (within s (names_in statements)) statements)
  of_block statements runs m free h none plain =
      let body = λ (inner : Surroundings). run_all inner statements in
      scope_steps s.table laws m s (names_in statements) body (written_in_all (within s (names_in statements)) statements)
      (runs m (statements_hide_nothing s statements h free) h (scope_faults s.table laws m s (names_in statements) body none) plain)

  -- a branch
  of_if : (condition then_branch : Tree) (else_branch : Part) → StatementRuns (within s (names_declared then_branch)) then_branch → BranchRuns s else_branch
      → (m : FlowModel) → HidesNothing s → is_block s.outside then_branch ≡ true → may_be_block s.outside else_branch ≡ true
      → (if_row (condition_of s condition m) (scope_row s (names_declared then_branch) (λ inner. run inner then_branch)) (run_branch s else_branch)).faults ≡ [] → IsPlain s.table m
      → IsStep s.table m (if_row (condition_of s condition m) (scope_row s (names_declared then_branch) (λ inner. run inner then_branch)) (run_branch s else_branch)).after
      (written_in s condition ++ (written_in (within s (names_declared then_branch)) then_branch ++ written_in_branch s else_branch))
  of_if condition then_branch else_branch first second m free of_then of_else none plain =
      let tested = condition_steps s laws condition m plain in
      let given = condition_of s condition m in
      if_steps s.table laws m given (scope_row s (names_declared then_branch) (λ inner. run inner then_branch)) (run_branch s else_branch)
      (written_in s condition) (written_in (within s (names_declared then_branch)) then_branch) (written_in_branch s else_branch) plain tested
      (λ right. closed then_branch first given.when_true free of_then right tested.when_true.plain)
      (λ right. second given.when_false free of_else right tested.when_false.plain)
      none

  -- a loop
  of_while : (loop : NodeId) (condition body : Tree) (m : FlowModel) → IsPlain s.table m
      → IsStep s.table m (while_row loop (condition_of s condition (loop_head m (written_in s condition ++ written_in (within s (names_declared body)) body) [])) (scope_row s (names_declared body) (λ inner. run inner body))).after
      (written_in s condition ++ written_in (within s (names_declared body)) body)
  of_while loop condition body m plain =
      let v = written_in s condition in
      let w = written_in (within s (names_declared body)) body in
      let head = loop_head m (v ++ w) [] in
      let given = condition_of s condition head in
      while_steps s.table laws m loop given (scope_row s (names_declared body) (λ inner. run inner body)) v w plain
      (of_scope (run (within s (names_declared body)) body given.when_true).jumps (of_statement (within s (names_declared body)) body given.when_true))
      (condition_steps s laws condition head (head_is_plain s.table laws m (v ++ w) plain))

mutual
  -- a statement, or what derives nothing
  pub statement_runs : (s : Surroundings) (laws : StepLaws s.table) (tree : Tree) → StatementRuns s tree
  statement_runs s laws (variable_statement at variables) m free h none plain =
      row_runs s.table laws m at None m (declare_list s variables m) (locals_of (names_declared (variable_statement at variables))) (written_in s variables) (declaration_steps s laws free variables m h none plain)
  statement_runs s laws (expression_statement at value) m free h none plain =
      step_runs s.table laws m (run s (expression_statement at value) m) (written_in_part s value) (effect_steps s laws value m plain)
  statement_runs s laws (block at statements) m free h none plain =
      step_runs s.table laws m (run s (block at statements) m) (written_in s (block at statements)) (of_block s laws statements (statements_run (within s (names_in statements)) laws statements) m free h none plain)
  statement_runs s laws (if_statement at condition then_branch else_branch) m free h none plain =
      let branches = and_parts (is_value s.outside condition) (is_block s.outside then_branch && may_be_block s.outside else_branch) h in
      let blocks = and_parts (is_block s.outside then_branch) (may_be_block s.outside else_branch) branches.1 in
      step_runs s.table laws m (run s (if_statement at condition then_branch else_branch) m) (written_in s (if_statement at condition then_branch else_branch))
      (of_if s laws condition then_branch else_branch (statement_runs (within s (names_declared then_branch)) laws then_branch) (branch_runs s laws else_branch) m free blocks.0 blocks.1 none plain)
  statement_runs s laws (while_statement at condition body) m free h none plain =
      step_runs s.table laws m (run s (while_statement at condition body) m) (written_in s (while_statement at condition body)) (of_while s laws at.node condition body m plain)
  statement_runs s laws tree m free h none plain = just_runs s.table laws m (written_in s tree) plain

  -- statements, one after another
  pub statements_run : (s : Surroundings) (laws : StepLaws s.table) (trees : Trees) → StatementsRun s trees
  statements_run s laws no_more m free h none plain = just_runs s.table laws m [] plain
  statements_run s laws (more first rest) m free h none plain =
      let parts = and_parts (is_error first || is_statement s.outside first) (are_statements s.outside rest) h in
      let one = run s first m in
      let runs = statement_runs s laws first m free parts.0 (no_first one.faults (run_all s rest one.after).faults none) plain in
      then_runs s.table laws m one (run_all s rest) (names_declared first) (names_in rest) (written_in s first) (written_in_all s rest) runs
      (statements_run s laws rest one.after free parts.1 (no_second one.faults (run_all s rest one.after).faults none) runs.plain)

  -- a branch, or none
  pub branch_runs : (s : Surroundings) (laws : StepLaws s.table) (part : Part) → BranchRuns s part
  branch_runs s laws absent m free h none plain = step_none s.table laws m [] plain
  branch_runs s laws (present tree) m free h none plain = closed s laws tree (statement_runs (within s (names_declared tree)) laws tree) m free h none plain

-- the head of a loop holds at each turn
pub loop_turns : (s : Surroundings) (laws : StepLaws s.table) (at : Place) (condition body : Tree) → LoopTurns s at condition body
loop_turns s laws at condition body m free h none plain =
    let v = written_in s condition in
    let w = written_in (within s (names_declared body)) body in
    let head = loop_head m (v ++ w) [] in
    let of_head = head_is_plain s.table laws m (v ++ w) plain in
    let given = condition_of s condition head in
    let tested = condition_steps s laws condition head of_head in
    let turn = scope_row s (names_declared body) (λ inner. run inner body) given.when_true in
    let of_body = (and_parts (is_value s.outside condition) (is_block s.outside body) h).1 in
    let turned = closed s laws body (statement_runs (within s (names_declared body)) laws body) given.when_true free of_body (no_second given.faults turn.faults none) tested.when_true.plain in
    record {
      plain = of_head;
      same_scope = laws.scopes.at_loop m (v ++ w) [];
      before = laws.order.at_code m (v ++ w) [];
      again = turn_implies s.table laws m given.when_true turn.after v w tested.when_true turned;
    }
