-- What a loop gives, from what its condition and its body give.
use Rattle.std.proofs.Common.{◌≡◌, false, List, [], ◌∷◌, ◌++◌, None, sym, ap, subst, ◌∙◌, append_assoc}
use Rattle.dart_tree.specs.Tree.{Tree, while_statement}
use Rattle.dart_tree.specs.Places.{place_of}
use Rattle.dart_tree.specs.declared.places.Place.{Place}
use Rattle.flow_model.specs.Flow.{FlowModel}
use Rattle.judgement.specs.Surroundings.{Surroundings}
use Rattle.judgement.specs.DeclaredNames.{names_declared, within}
use Rattle.judgement.specs.Given.{Jump, joined_with, said_of_statement}
use Rattle.judgement.specs.StatementRows.{loop_head, scope_row, while_row}
use Rattle.judgement.specs.Written.{written_in}
use Rattle.judgement.specs.Judgement.{condition_of, run}
use Rattle.resolve.specs.Judged.{Evaluates, Gives}
use Rattle.resolve.specs.Said.{said_more}
use Rattle.resolve.specs.declared.judge.Found.{Found}
use Rattle.resolve.specs.declared.judge.Typed.{Typed}
use Rattle.resolve.proofs.Declarations.{of_statement_row}
use Rattle.resolve.proofs.Jumps.{of_scope, of_statement}
use Rattle.resolve.proofs.Saying.{said_twice}

pub of_loop : (found mid now last : Found) (s : Surroundings) (at : Place) (condition body : Tree) (m head inside after : FlowModel) (tested : Typed)
    → head ≡ loop_head m (written_in s (while_statement at condition body)) []
    → Evaluates found mid tested (place_of condition) (condition_of s condition head)
    → Gives mid now inside (scope_row s (names_declared body) (λ inner. run inner body) tested.when_true.value)
    → after ≡ tested.when_false.value
    → last.faults.items ≡ now.faults.items → last.nodes ≡ said_more now.nodes (said_of_statement at.node None m after ∷ [])
    → Gives found last after (run s (while_statement at condition body) m)
of_loop found mid now last s at condition body m head inside after tested at_head judged_there turned ends faults nodes =
    let value = condition_of s condition (loop_head m (written_in s (while_statement at condition body)) []) in
    let scope = scope_row s (names_declared body) (λ inner. run inner body) in
    let turn = scope value.when_true in
    let judged : Evaluates found mid tested (place_of condition) value =
    subst (λ (h : FlowModel). Evaluates found mid tested (place_of condition) (condition_of s condition h)) at_head judged_there
    in
    let given : Gives mid now inside turn = subst (λ (h : FlowModel). Gives mid now inside (scope h)) judged.when_true_is turned in
    let none : turn.jumps ≡ [] = of_scope _ (of_statement (within s (names_declared body)) body value.when_true) in
    of_statement_row found now last at None m after (while_row at.node value scope)
    (record {
      after_is = ends ∙ judged.when_false_is ∙ sym (ap (λ (jumps : List Jump). joined_with at.node false jumps value.when_false) none);
      faults_are = given.faults_are ∙ ap (λ fs. fs ++ turn.faults) judged.faults_are ∙ append_assoc found.faults.items value.faults turn.faults;
      nodes_are = given.nodes_are ∙ ap (λ ns. said_more ns turn.nodes) judged.nodes_are ∙ said_twice found.nodes value.nodes turn.nodes;
    })
    faults nodes
