-- What the node of an expression gives, from what its form gives.
use Rattle.std.proofs.Common.{◌≡◌, Bool, true, false, [], ◌∷◌, ◌++◌, Option, if◌then◌else◌, refl, sym, ap, ◌∙◌}
use Rattle.dart_tree.specs.declared.places.Place.{Place}
use Rattle.dart_types.specs.Ty.{never}
use Rattle.dart_types.specs.Same.{same_type}
use Rattle.flow_model.specs.Flow.{FlowModel}
use Rattle.flow_model.specs.Steps.{exit_of}
use Rattle.judgement.specs.declared.meaning.Meaning.{Meaning}
use Rattle.judgement.specs.Given.{Evaluation, exits_if_never, expression_row, said_of_expression}
use Rattle.resolve.specs.Judged.{Evaluates, typed_of}
use Rattle.resolve.specs.Said.{said_more}
use Rattle.resolve.specs.declared.judge.Found.{Found}
use Rattle.resolve.specs.declared.judge.Typed.{Typed}
use Rattle.resolve.proofs.Saying.{said_twice}

-- an evaluation without diagnostics and nodes
abbrev bare : Evaluation → Evaluation
bare e = record e { faults = []; nodes = [] }

-- it exits like the whole
exits_bare : (b : Bool) (e : Evaluation)
    → (if b then record (bare e) { after = exit_of e.after; when_true = exit_of e.when_true; when_false = exit_of e.when_false } else bare e)
    ≡ bare (if b then record e { after = exit_of e.after; when_true = exit_of e.when_true; when_false = exit_of e.when_false } else e)
exits_bare true e = refl
exits_bare false e = refl

-- an expression that exits has the diagnostics and the nodes that it had
same_faults : (b : Bool) (e : Evaluation) → (if b then record e { after = exit_of e.after; when_true = exit_of e.when_true; when_false = exit_of e.when_false } else e).faults ≡ e.faults
same_faults true e = refl
same_faults false e = refl

same_nodes : (b : Bool) (e : Evaluation) → (if b then record e { after = exit_of e.after; when_true = exit_of e.when_true; when_false = exit_of e.when_false } else e).nodes ≡ e.nodes
same_nodes true e = refl
same_nodes false e = refl

-- what was judged is the row, its diagnostics and nodes aside
is_bare : {found now : Found} {typed : Typed} {at : Place} {row : Evaluation} → Evaluates found now typed at row → typed_of typed ≡ bare row
is_bare judged i = record {
  ty = judged.type_is i;
  after = judged.after_is i;
  when_true = judged.when_true_is i;
  when_false = judged.when_false_is i;
  faults = [];
  nodes = [];
}

-- what is said of a node doesn't depend on diagnostics
pub exited_evaluates : {found mid now : Found} {typed exited : Typed} {at : Place} {row : Evaluation} (element : Option Meaning) (m : FlowModel)
    → Evaluates found mid typed at row → exited.at ≡ typed.at → typed_of exited ≡ exits_if_never (typed_of typed)
    → now.faults.items ≡ mid.faults.items → now.nodes ≡ said_more mid.nodes (said_of_expression exited.at.node element m (typed_of exited) ∷ [])
    → Evaluates found now exited at (expression_row at element m row)
exited_evaluates {found} {mid} {now} {typed} {exited} {at} {row} element m judged place value faults nodes =
    let whole : typed_of exited ≡ bare (exits_if_never row) = value ∙ ap exits_if_never (is_bare judged) ∙ exits_bare (same_type row.ty never) row in
    let stands : exited.at ≡ at = place ∙ judged.place_is in
    record {
      place_is = stands;
      type_is = ap (λ (e : Evaluation). e.ty) whole;
      after_is = ap (λ (e : Evaluation). e.after) whole;
      when_true_is = ap (λ (e : Evaluation). e.when_true) whole;
      when_false_is = ap (λ (e : Evaluation). e.when_false) whole;
      faults_are = faults ∙ judged.faults_are ∙ ap (λ fs. found.faults.items ++ fs) (sym (same_faults (same_type row.ty never) row));
      nodes_are =
          nodes
          ∙ ap (λ (e : Evaluation). said_more mid.nodes (said_of_expression exited.at.node element m e ∷ [])) whole
          ∙ ap (λ (p : Place). said_more mid.nodes (said_of_expression p.node element m (exits_if_never row) ∷ [])) stands
          ∙ ap (λ ns. said_more ns (said_of_expression at.node element m (exits_if_never row) ∷ [])) judged.nodes_are
          ∙ said_twice found.nodes row.nodes (said_of_expression at.node element m (exits_if_never row) ∷ [])
          ∙ ap (λ ns. said_more found.nodes (ns ++ said_of_expression at.node element m (exits_if_never row) ∷ [])) (sym (same_nodes (same_type row.ty never) row));
    }
