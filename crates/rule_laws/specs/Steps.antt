-- What the rules do to what is known, whatever the form.
use Rattle.std.specs.Prelude.{◌≡◌, true, List, [], Option}
use Rattle.dart_tree.specs.Tree.{Tree, Trees, Part, while_statement}
use Rattle.dart_tree.specs.declared.places.Place.{Place}
use Rattle.dart_types.specs.Tables.{Table}
use Rattle.dart_types.specs.Ty.{Ty}
use Rattle.flow_model.specs.Flow.{FlowModel, end_of}
use Rattle.flow_model.specs.Join.{HaveSameScope}
use Rattle.flow_model.specs.Order.{Implies}
use Rattle.flow_model.specs.Steps.{conservative_of}
use Rattle.flow_model.specs.declared.locals.LocalId.{LocalId}
use Rattle.judgement.specs.Surroundings.{Surroundings}
use Rattle.judgement.specs.DeclaredNames.{locals_of, names_declared, names_in, within}
use Rattle.judgement.specs.Given.{Evaluation, Outcome}
use Rattle.judgement.specs.StatementRows.{loop_head, scope_row}
use Rattle.judgement.specs.Judgement.{condition_of, evaluate, run, run_all, run_branch}
use Rattle.judgement.specs.Written.{written_in, written_in_all, written_in_branch}
use Rattle.built_forms.specs.Forms.{is_effect, is_statement, is_block, is_value, are_statements, may_be_block}
use Rattle.rule_laws.specs.Plain.{HidesNothing, IsPlain}

-- from one model to another the same locals are in scope, of the same types; it is as plain; and it says as much, but of the locals that were written
pub record IsStep (table : Table) (m a : FlowModel) (written : List LocalId) : Type 0 where
  pub same_scope : HaveSameScope a m
  pub plain : IsPlain table a
  pub says : Implies a (conservative_of m written [])

-- an expression's models are such steps, wherever it goes on
pub record Evaluates (table : Table) (m : FlowModel) (e : Evaluation) (written : List LocalId) : Type 0 where
  pub after : IsStep table m e.after written
  pub when_true : IsStep table m e.when_true written
  pub when_false : IsStep table m e.when_false written

-- so is what is known behind a statement, once what it declares is out of scope; and in between the model is plain
pub record Runs (table : Table) (m : FlowModel) (o : Outcome) (declared : List LocalId) (written : List LocalId) : Type 0 where
  pub plain : IsPlain table o.after
  pub behind : IsStep table m (end_of o.after declared) written

-- an expression of a form that is built, whose types are plain where it is judged
abbrev pub ValueSteps : Surroundings → Tree → Type 0
ValueSteps s tree = (wanted : Option Ty) (m : FlowModel) → is_effect s.outside tree ≡ true → (evaluate s tree wanted m).faults ≡ [] → IsPlain s.table m
    → Evaluates s.table m (evaluate s tree wanted m) (written_in s tree)

-- a condition
abbrev pub ConditionSteps : Surroundings → Tree → Type 0
ConditionSteps s tree = (m : FlowModel) → is_value s.outside tree ≡ true → (condition_of s tree m).faults ≡ [] → IsPlain s.table m
    → Evaluates s.table m (condition_of s tree m) (written_in s tree)

-- a statement
abbrev pub StatementSteps : Surroundings → Tree → Type 0
StatementSteps s tree = (m : FlowModel) → HidesNothing s → is_statement s.outside tree ≡ true → (run s tree m).faults ≡ [] → IsPlain s.table m
    → Runs s.table m (run s tree m) (locals_of (names_declared tree)) (written_in s tree)

-- statements, one after another
abbrev pub StatementsStep : Surroundings → Trees → Type 0
StatementsStep s trees = (m : FlowModel) → HidesNothing s → are_statements s.outside trees ≡ true → (run_all s trees m).faults ≡ [] → IsPlain s.table m
    → Runs s.table m (run_all s trees m) (locals_of (names_in trees)) (written_in_all s trees)

-- a block is a scope
abbrev pub BlockSteps : Surroundings → Tree → Type 0
BlockSteps s tree = (m : FlowModel) → HidesNothing s → is_block s.outside tree ≡ true → (scope_row s (names_declared tree) (λ inner. run inner tree) m).faults ≡ [] → IsPlain s.table m
    → IsStep s.table m (scope_row s (names_declared tree) (λ inner. run inner tree) m).after (written_in (within s (names_declared tree)) tree)

-- a branch, or none
abbrev pub BranchSteps : Surroundings → Part → Type 0
BranchSteps s part = (m : FlowModel) → HidesNothing s → may_be_block s.outside part ≡ true → (run_branch s part m).faults ≡ [] → IsPlain s.table m
    → IsStep s.table m (run_branch s part m).after (written_in_branch s part)

-- The head of a loop is as plain as what is known before it, which says as much; and so does what is known where its body is behind, each time.
pub record IsLoop (s : Surroundings) (at : Place) (condition body : Tree) (m : FlowModel) (head : FlowModel) : Type 0 where
  pub plain : IsPlain s.table head
  pub same_scope : HaveSameScope head m
  pub before : Implies m head
  pub again : Implies (scope_row s (names_declared body) (λ inner. run inner body) (condition_of s condition head).when_true).after head

abbrev pub LoopTurns : Surroundings → Place → (condition body : Tree) → Type 0
LoopTurns s at condition body = (m : FlowModel) → HidesNothing s → is_statement s.outside (while_statement at condition body) ≡ true → (run s (while_statement at condition body) m).faults ≡ [] → IsPlain s.table m
    → IsLoop s at condition body m (loop_head m (written_in s (while_statement at condition body)) [])
