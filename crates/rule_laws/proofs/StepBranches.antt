-- The models of each row of statements are steps.
use Rattle.std.proofs.Common.{◌≡◌, false, List, [], ◌++◌, Option, None, sym, subst}
use Rattle.std.proofs.lemmas.List.{map-append}
use Rattle.dart_tree.specs.Tree.{Part, absent, present}
use Rattle.dart_tree.specs.declared.names.Name.{Name}
use Rattle.dart_tree.specs.declared.places.NodeId.{NodeId}
use Rattle.dart_tree.specs.declared.places.Place.{Place}
use Rattle.dart_types.specs.Tables.{Table}
use Rattle.flow_model.specs.Flow.{FlowModel, end_of}
use Rattle.flow_model.specs.Join.{join_of}
use Rattle.flow_model.specs.Steps.{conservative_of}
use Rattle.flow_model.specs.Order.{Implies}
use Rattle.flow_model.specs.declared.locals.LocalId.{LocalId}
use Rattle.judgement.specs.declared.meaning.Meaning.{Meaning}
use Rattle.judgement.specs.Surroundings.{Surroundings}
use Rattle.judgement.specs.DeclaredNames.{local_of, locals_of, within}
use Rattle.judgement.specs.Given.{Evaluation, Jump, Outcome, and_then, joined_with, just, statement_row}
use Rattle.judgement.specs.StatementRows.{if_row, scope_row, while_row}
use Rattle.judgement.specs.Judgement.{evaluate_part}
use Rattle.judgement.specs.Written.{written_in_part}
use Rattle.rule_laws.specs.Plain.{IsPlain}
use Rattle.rule_laws.specs.Steps.{Evaluates, IsStep, Runs}
use Rattle.rule_laws.proofs.StepLaws.{StepLaws}
use Rattle.rule_laws.proofs.StepModels.{AreWithin, forgets_once, head_is_plain, step_alone, step_both, step_join, step_none, step_then, step_within, within_both, within_left, within_right, within_within}
use Rattle.rule_laws.proofs.StepExpressions.{value_steps}
use Rattle.rule_laws.proofs.StepDeclarations.{no_first, no_second}

module _ (table : Table) (laws : StepLaws table) (m : FlowModel) where
  -- a statement that changes nothing
  pub just_runs : (w : List LocalId) → IsPlain table m → Runs table m (just m) [] w
  just_runs w plain = record { plain = plain; behind = step_alone table laws m m w (step_none table laws m w plain) }

  -- a step is a statement that declares nothing
  pub step_runs : (o : Outcome) (w : List LocalId) → IsStep table m o.after w → Runs table m o [] w
  step_runs o w step = record { plain = step.plain; behind = step_alone table laws m o.after w step }

  -- one statement after another
  pub then_runs : (first : Outcome) (next : FlowModel → Outcome) (xs ys : List Name) (v w : List LocalId) → Runs table m first (locals_of xs) v → Runs table first.after (next first.after) (locals_of ys) w
      → Runs table m (and_then first next) (locals_of (xs ++ ys)) (v ++ w)
  then_runs first next xs ys v w one other =
      let behind = (next first.after).after in
      let P : List LocalId → Type 0 = λ vars. IsStep table m (end_of behind vars) (v ++ w) in
      record {
        plain = other.plain;
        behind =
            subst P (sym (map-append local_of xs ys))
            (step_both table laws m first.after behind v w (locals_of xs) (locals_of ys) one.behind other.behind);
      }

  -- two branches, and what is known behind both
  pub branches_join : (condition : Evaluation) (one other : FlowModel) (u v w : List LocalId) → IsPlain table m → Evaluates table m condition u → IsStep table condition.when_true one v → IsStep table condition.when_false other w → IsStep table m (join_of one other) (u ++ (v ++ w))
  branches_join condition one other u v w plain tested first second =
      let all = u ++ (v ++ w) in
      let of_condition : AreWithin u all = within_left u (v ++ w) in
      let of_one : AreWithin v all = within_within v (v ++ w) all (within_left v w) (within_right u (v ++ w)) in
      let of_other : AreWithin w all = within_within w (v ++ w) all (within_right v w) (within_right u (v ++ w)) in
      step_join table laws m one other all plain
      (step_within table laws m one (u ++ v) all (within_both u v all of_condition of_one) (step_then table laws m condition.when_true one u v tested.when_true first))
      (step_within table laws m other (u ++ w) all (within_both u w all of_condition of_other) (step_then table laws m condition.when_false other u w tested.when_false second))

  -- a branch
  pub if_steps : (condition : Evaluation) (then_branch else_branch : FlowModel → Outcome) (u v w : List LocalId) → IsPlain table m → Evaluates table m condition u
      → ((then_branch condition.when_true).faults ≡ [] → IsStep table condition.when_true (then_branch condition.when_true).after v)
      → ((else_branch condition.when_false).faults ≡ [] → IsStep table condition.when_false (else_branch condition.when_false).after w)
      → (if_row condition then_branch else_branch).faults ≡ []
      → IsStep table m (if_row condition then_branch else_branch).after (u ++ (v ++ w))
  if_steps condition then_branch else_branch u v w plain tested first second none =
      let one = then_branch condition.when_true in
      let other = else_branch condition.when_false in
      let behind : one.faults ++ other.faults ≡ [] = no_second condition.faults (one.faults ++ other.faults) none in
      branches_join condition one.after other.after u v w plain tested (first (no_first one.faults other.faults behind)) (second (no_second one.faults other.faults behind))

  -- the head of a loop that writes these
  head_step : (w : List LocalId) → IsPlain table m → IsStep table m (conservative_of m w []) w
  head_step w plain = record {
    same_scope = laws.scopes.at_loop m w [];
    plain = head_is_plain table laws m w plain;
    says = laws.order.reflexive (conservative_of m w []);
  }

  -- the step of the next lemma
  while_after : (loop : NodeId) (jumps : List Jump) (a : FlowModel) (w : List LocalId) → jumps ≡ [] → IsStep table m a w → IsStep table m (joined_with loop false jumps a) w
  while_after loop jumps a w none step =
      let P : List Jump → Type 0 = λ js. IsStep table m (joined_with loop false js a) w in
      subst P (sym none) step

  -- a loop, whose condition writes the first of these, and its body the others
  pub while_steps : (loop : NodeId) (condition : Evaluation) (body : FlowModel → Outcome) (v w : List LocalId) → IsPlain table m → (body condition.when_true).jumps ≡ [] → Evaluates table (conservative_of m (v ++ w) []) condition v
      → IsStep table m (while_row loop condition body).after (v ++ w)
  while_steps loop condition body v w plain none tested =
      let all = v ++ w in
      while_after loop (body condition.when_true).jumps condition.when_false all none
      (step_within table laws m condition.when_false (all ++ v) all (within_both all v all (λ var h. h) (within_left v w))
      (step_then table laws m (conservative_of m all []) condition.when_false all v (head_step all plain) tested.when_false))

  -- what is known behind the body of a loop implies what is known at its head
  pub turn_implies : (condition turned : FlowModel) (v w : List LocalId) → IsStep table (conservative_of m (v ++ w) []) condition v → IsStep table condition turned w → Implies turned (conservative_of m (v ++ w) [])
  turn_implies condition turned v w first second =
      let head = conservative_of m (v ++ w) [] in
      let P : FlowModel → Type 0 = λ k. Implies turned k in
      subst P (forgets_once table laws m (v ++ w)) (step_then table laws head condition turned v w first second).says

  -- a scope is a step
  pub scope_steps : (s : Surroundings) (names : List Name) (body : Surroundings → FlowModel → Outcome) (w : List LocalId) → Runs table m (body (within s names) m) (locals_of names) w → IsStep table m (scope_row s names body m).after w
  scope_steps s names body w runs = runs.behind

  -- in which nothing is wrong if nothing is in what stands in it
  pub scope_faults : (s : Surroundings) (names : List Name) (body : Surroundings → FlowModel → Outcome) → (scope_row s names body m).faults ≡ [] → (body (within s names) m).faults ≡ []
  scope_faults s names body none = no_first (body (within s names) m).faults [] none

  -- what the node of a statement gives
  pub row_runs : (at : Place) (element : Option Meaning) (before : FlowModel) (row : Outcome) (vars w : List LocalId) → Runs table m row vars w → Runs table m (statement_row at element before row) vars w
  row_runs at element before row vars w runs = record { plain = runs.plain; behind = runs.behind }

-- an expression that stands as a statement
pub effect_steps : (s : Surroundings) (laws : StepLaws s.table) (part : Part) (m : FlowModel) → IsPlain s.table m → IsStep s.table m (evaluate_part s part m).after (written_in_part s part)
effect_steps s laws absent m plain = step_none s.table laws m [] plain
effect_steps s laws (present value) m plain = (value_steps s laws value None m plain).after
