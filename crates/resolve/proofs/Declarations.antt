-- What statements and declarations give, from what their rows give.
use Rattle.std.proofs.Common.{◌≡◌, ℕ, ◌+◌, ◌<◌, Bool, true, false, List, [], ◌∷◌, ◌++◌, length, get_or, drop, Option, Some, Result, IfOk, if◌then◌else◌, refl, sym, ap, subst, ◌∙◌, append_assoc, append-nil}
use Rattle.dart_tree.specs.Tree.{Tree, absent, present, trees_of, variable}
use Rattle.dart_tree.specs.Places.{place_of}
use Rattle.dart_tree.specs.declared.names.Name.{Name}
use Rattle.dart_tree.specs.declared.places.Place.{Place}
use Rattle.dart_types.specs.Ty.{Ty}
use Rattle.flow_model.specs.Flow.{FlowModel}
use Rattle.flow_model.specs.declared.locals.LocalId.{LocalId}
use Rattle.judgement.specs.declared.meaning.Meaning.{Meaning}
use Rattle.judgement.specs.declared.meaning.Meaning.TheVariants.{Local}
use Rattle.judgement.specs.DeclaredNames.{local_of}
use Rattle.judgement.specs.Given.{Evaluation, Outcome, said_of_statement, statement_row}
use Rattle.judgement.specs.StatementRows.{declare_row, initialize_row, initialized_row, is_declared_before}
use Rattle.judgement.specs.Surroundings.{Surroundings}
use Rattle.judgement.specs.Judgement.{declare, declare_all, evaluate, run, run_all}
use Rattle.resolve.specs.Judged.{Evaluates, Gives, RowGives}
use Rattle.resolve.specs.Said.{said_more}
use Rattle.resolve.specs.declared.judge.Found.{Found}
use Rattle.resolve.specs.declared.judge.Typed.{Typed}
use Rattle.resolve.proofs.Ahead.{Ahead, ahead_next}
use Rattle.resolve.proofs.Parts.{next_part}
use Rattle.resolve.proofs.Saying.{said_no_more, said_twice}

-- what the node of a statement gives, from what its row gives
pub of_statement_row : (found mid now : Found) (at : Place) (element : Option Meaning) (m after : FlowModel) (outcome : Outcome) → Gives found mid after outcome
    → now.faults.items ≡ mid.faults.items → now.nodes ≡ said_more mid.nodes (said_of_statement at.node element m after ∷ [])
    → Gives found now after (statement_row at element m outcome)
of_statement_row found mid now at element m after outcome given faults nodes = record {
  after_is = given.after_is;
  faults_are = faults ∙ given.faults_are;
  nodes_are =
      nodes
      ∙ ap (λ (known : FlowModel). said_more mid.nodes (said_of_statement at.node element m known ∷ [])) given.after_is
      ∙ ap (λ ns. said_more ns (said_of_statement at.node element m outcome.after ∷ [])) given.nodes_are
      ∙ said_twice found.nodes outcome.nodes (said_of_statement at.node element m outcome.after ∷ []);
}

of_test : (b : Bool) (one other : Outcome) → one.nodes ≡ [] → other.nodes ≡ [] → (if b then one else other).nodes ≡ []
of_test true one other left right = left
of_test false one other left right = right

declared_alone : (s : Surroundings) (name : Name) (ty : Ty) (m : FlowModel) → (declare_row s name ty m).nodes ≡ []
declared_alone s name ty m = of_test (is_declared_before s name m) _ _ refl refl

initialized_alone : (s : Surroundings) (name : Name) (ty : Ty) (at : Place) (value : Ty) (m : FlowModel) → (initialized_row s name ty at value m).nodes ≡ []
initialized_alone s name ty at value m = of_test (is_declared_before s name m) _ _ refl refl

-- a row that says nothing of nodes, where what was said of nodes stays
row_alone : (found now : Found) (after : FlowModel) (outcome : Outcome) → outcome.nodes ≡ [] → now.nodes ≡ found.nodes
    → RowGives found.faults.items now.faults.items after outcome → Gives found now after outcome
row_alone found now after outcome none same given = record {
  after_is = given.after_is;
  faults_are = given.faults_are;
  nodes_are = same ∙ sym (said_no_more found.nodes) ∙ sym (ap (λ ns. said_more found.nodes ns) none);
}

-- a variable without initializer
pub of_declaration : (found mid now : Found) (s : Surroundings) (ty : Ty) (tree : Tree) (at : Place) (name : Name) (var : LocalId) (m after : FlowModel)
    → variable at name absent ≡ tree → var ≡ local_of name
    → mid.nodes ≡ found.nodes → RowGives found.faults.items mid.faults.items after (declare_row s name ty m)
    → now.faults.items ≡ mid.faults.items → now.nodes ≡ said_more mid.nodes (said_of_statement at.node (Some (Local var)) m after ∷ [])
    → Gives found now after (declare s ty tree m)
of_declaration found mid now s ty tree at name var m after is declares same given faults nodes =
    subst (λ (t : Tree). Gives found now after (declare s ty t m)) is
    (of_statement_row found mid now at (Some (Local (local_of name))) m after (declare_row s name ty m)
    (row_alone found mid after (declare_row s name ty m) (declared_alone s name ty m) same given) faults
    (nodes ∙ ap (λ (v : LocalId). said_more mid.nodes (said_of_statement at.node (Some (Local v)) m after ∷ [])) declares))

-- what follows an initializer, behind it
behind_value : (found mid now : Found) (s : Surroundings) (ty : Ty) (name : Name) (typed : Typed) (at : Place) (value : Evaluation) (after : FlowModel)
    → Evaluates found mid typed at value → now.nodes ≡ mid.nodes
    → RowGives mid.faults.items now.faults.items after (initialized_row s name ty typed.at typed.ty typed.after.value)
    → Gives found now after (initialize_row s name ty at value)
behind_value found mid now s ty name typed at value after judged same given =
    let row : RowGives mid.faults.items now.faults.items after (initialized_row s name ty at value.ty value.after) =
    subst (λ (m : FlowModel). RowGives mid.faults.items now.faults.items after (initialized_row s name ty at value.ty m)) judged.after_is
    (subst (λ (t : Ty). RowGives mid.faults.items now.faults.items after (initialized_row s name ty at t typed.after.value)) judged.type_is
    (subst (λ (p : Place). RowGives mid.faults.items now.faults.items after (initialized_row s name ty p typed.ty typed.after.value)) judged.place_is given))
    in
    let rest = initialized_row s name ty at value.ty value.after in
    record {
      after_is = row.after_is;
      faults_are = row.faults_are ∙ ap (λ fs. fs ++ rest.faults) judged.faults_are ∙ append_assoc found.faults.items value.faults rest.faults;
      nodes_are =
          same
          ∙ judged.nodes_are
          ∙ sym (ap (λ ns. said_more found.nodes (value.nodes ++ ns)) (initialized_alone s name ty at value.ty value.after) ∙ ap (λ ns. said_more found.nodes ns) (append-nil value.nodes));
    }

-- a variable with an initializer
pub of_initialization : (found mid behind now : Found) (s : Surroundings) (ty : Ty) (tree value : Tree) (at : Place) (name : Name) (var : LocalId) (typed : Typed) (m after : FlowModel)
    → variable at name (present value) ≡ tree → var ≡ local_of name
    → Evaluates found mid typed (place_of value) (evaluate s value (Some ty) m) → behind.nodes ≡ mid.nodes
    → RowGives mid.faults.items behind.faults.items after (initialized_row s name ty typed.at typed.ty typed.after.value)
    → now.faults.items ≡ behind.faults.items → now.nodes ≡ said_more behind.nodes (said_of_statement at.node (Some (Local var)) m after ∷ [])
    → Gives found now after (declare s ty tree m)
of_initialization found mid behind now s ty tree value at name var typed m after is declares judged same given faults nodes =
    subst (λ (t : Tree). Gives found now after (declare s ty t m)) is
    (of_statement_row found behind now at (Some (Local (local_of name))) m after (initialize_row s name ty (place_of value) (evaluate s value (Some ty) m))
    (behind_value found mid behind s ty name typed (place_of value) (evaluate s value (Some ty) m) after judged same given) faults
    (nodes ∙ ap (λ (v : LocalId). said_more behind.nodes (said_of_statement at.node (Some (Local v)) m after ∷ [])) declares))

-- one variable more
pub next_declared : (start now next : Found) (whole : Outcome) (s : Surroundings) (ty : Ty) (ts : List Tree) (i : ℕ) (t : Tree) (m after : FlowModel)
    → i < length ts → t ≡ get_or ts i t
    → Ahead start now whole (declare_all s ty (trees_of (drop i ts)) m) → Gives now next after (declare s ty t m) → Ahead start next whole (declare_all s ty (trees_of (drop (i + 1) ts)) after)
next_declared start now next whole s ty ts i t m after within is so_far given =
    ahead_next (declare_all s ty (trees_of (drop (i + 1) ts)))
    (subst (λ (us : List Tree). Ahead start now whole (declare_all s ty (trees_of us) m)) (next_part ts i t within is) so_far)
    given

-- one statement more
pub next_run : (start now next : Found) (whole : Outcome) (s : Surroundings) (ts : List Tree) (i : ℕ) (t : Tree) (m after : FlowModel) → i < length ts → t ≡ get_or ts i t
    → Ahead start now whole (run_all s (trees_of (drop i ts)) m) → Gives now next after (run s t m) → Ahead start next whole (run_all s (trees_of (drop (i + 1) ts)) after)
next_run start now next whole s ts i t m after within is so_far given =
    ahead_next (run_all s (trees_of (drop (i + 1) ts)))
    (subst (λ (us : List Tree). Ahead start now whole (run_all s (trees_of us) m)) (next_part ts i t within is) so_far)
    given

-- What a form gives is what a tree of this form gives.
pub of_statement_form : {X E : Type 0} (r : Result X E) (model : X → FlowModel) (found now : Found) (s : Surroundings) (form tree : Tree) (m : FlowModel) → form ≡ tree
    → IfOk r (λ after. Gives found now (model after) (run s form m)) → IfOk r (λ after. Gives found now (model after) (run s tree m))
of_statement_form r model found now s form tree m is given = subst (λ (t : Tree). IfOk r (λ after. Gives found now (model after) (run s t m))) is given
