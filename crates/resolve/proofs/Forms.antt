-- What an expression gives by its form, from what the row of the form gives.
use Rattle.std.proofs.Common.{◌≡◌, ℕ, Bool, true, false, List, [], ◌∷◌, ◌++◌, length, Option, Result, Ok, Err, IfOk, is_some, if◌then◌else◌, refl, sym, ap, subst, ◌∙◌, append-nil}
use Rattle.std.proofs.lemmas.Result.{IfOk-weaker}
use Rattle.dart_tree.specs.Tree.{Tree, trees_of, integer_literal, parenthesis}
use Rattle.dart_tree.specs.Places.{place_of}
use Rattle.dart_tree.specs.declared.places.Place.{Place}
use Rattle.dart_types.specs.Ty.{Ty, invalid}
use Rattle.flow_model.specs.Flow.{FlowModel}
use Rattle.judgement.specs.declared.code.DiagnosticCode.TheVariants.{IntegerLiteralOutOfRange}
use Rattle.judgement.specs.declared.fault.Fault.{Fault}
use Rattle.judgement.specs.Surroundings.{Surroundings, lexeme_of}
use Rattle.judgement.specs.Literals.{integer_of}
use Rattle.judgement.specs.Given.{Evaluation, faulty, of_type}
use Rattle.judgement.specs.ExpressionRows.{int, integer_row}
use Rattle.judgement.specs.Judgement.{evaluate, form_row, printed}
use Rattle.resolve.specs.Judged.{Evaluates, RowEvaluates, typed_of}
use Rattle.resolve.specs.Said.{said_more}
use Rattle.resolve.specs.declared.judge.Found.{Found}
use Rattle.resolve.specs.declared.judge.Typed.{Typed}
use Rattle.resolve.proofs.Saying.{said_no_more}

-- what holds of a value, if there is one, follows from two facts of it
ok_both : {X E : Type 0} (r : Result X E) (P Q R : X → Type 0) → ((x : X) → P x → Q x → R x) → IfOk r P → IfOk r Q → IfOk r R
ok_both (Ok x) P Q R f p q = f x p q
ok_both (Err e) P Q R f p q = tt

no_nodes : (b : Bool) (e f : Evaluation) → [] ≡ e.nodes → [] ≡ f.nodes → [] ≡ (if b then e else f).nodes
no_nodes true e f one other = one
no_nodes false e f one other = other

-- a call of `print` without argument, or with more than one, says nothing
says_nothing : (s : Surroundings) (ts : List Tree) (m : FlowModel) → (length ts ≡ 1 → ⊥) → of_type invalid m ≡ printed s (trees_of ts) m
says_nothing s [] m other = refl
says_nothing s (first ∷ []) m other = absurd (other refl)
says_nothing s (first ∷ second ∷ rest) m other = refl

module _ {E : Type 0} (r : Result Typed E) where
  -- an evaluation without diagnostics is a row that has none
  pub plain_row : (found : List Fault) (at : Place) (e : Evaluation) → IfOk r (λ typed. typed_of typed ≡ e) → IfOk r (λ typed. typed.at ≡ at)
      → IfOk r (λ typed. RowEvaluates found found typed at e)
  plain_row found at e row place =
      ok_both r (λ typed. typed_of typed ≡ e) (λ typed. typed.at ≡ at) (λ typed. RowEvaluates found found typed at e)
      (λ typed is stands. record {
        place_is = stands;
        type_is = ap (λ (v : Evaluation). v.ty) is;
        after_is = ap (λ (v : Evaluation). v.after) is;
        when_true_is = ap (λ (v : Evaluation). v.when_true) is;
        when_false_is = ap (λ (v : Evaluation). v.when_false) is;
        faults_are = sym (append-nil found) ∙ ap (λ (v : Evaluation). found ++ v.faults) is;
      })
      row place

  -- a row that says nothing of nodes is an evaluation, where what was said of nodes stays
  pub row_only : (found now : Found) (at : Place) (e : Evaluation) → [] ≡ e.nodes → now.nodes ≡ found.nodes
      → IfOk r (λ typed. RowEvaluates found.faults.items now.faults.items typed at e) → IfOk r (λ typed. Evaluates found now typed at e)
  row_only found now at e none same given =
      IfOk-weaker r (λ typed. RowEvaluates found.faults.items now.faults.items typed at e) (λ typed. Evaluates found now typed at e)
      (λ typed row. record {
        place_is = row.place_is;
        type_is = row.type_is;
        after_is = row.after_is;
        when_true_is = row.when_true_is;
        when_false_is = row.when_false_is;
        faults_are = row.faults_are;
        nodes_are = same ∙ sym (said_no_more found.nodes) ∙ ap (λ ns. said_more found.nodes ns) none;
      })
      given

  -- An integer literal that is in range is an int.
  pub integer_in_range : (found : List Fault) (s : Surroundings) (at : Place) (word : ℕ) (m after : FlowModel) (ty : Ty)
      → is_some (integer_of (lexeme_of s word)) ≡ true → ty ≡ int → after ≡ m
      → IfOk r (λ typed. typed_of typed ≡ of_type ty after) → IfOk r (λ typed. typed.at ≡ at) → IfOk r (λ typed. RowEvaluates found found typed at (integer_row s at word m))
  integer_in_range found s at word m after ty inside is_int same row place =
      plain_row found at (integer_row s at word m)
      (IfOk-weaker r (λ typed. typed_of typed ≡ of_type ty after) (λ typed. typed_of typed ≡ integer_row s at word m)
      (λ typed is.
      is
      ∙ ap (λ (t : Ty). of_type t after) is_int
      ∙ ap (of_type int) same
      ∙ sym (ap (λ (b : Bool). if b then of_type int m else faulty at.span IntegerLiteralOutOfRange m) inside))
      row)
      place

  -- One that is out of range has a diagnostic.
  pub integer_out_of_range : (found now : List Fault) (s : Surroundings) (at : Place) (word : ℕ) (m : FlowModel) → is_some (integer_of (lexeme_of s word)) ≡ false
      → IfOk r (λ typed. RowEvaluates found now typed at (faulty at.span IntegerLiteralOutOfRange m)) → IfOk r (λ typed. RowEvaluates found now typed at (integer_row s at word m))
  integer_out_of_range found now s at word m outside given =
      subst (λ (e : Evaluation). IfOk r (λ typed. RowEvaluates found now typed at e))
      (sym (ap (λ (b : Bool). if b then of_type int m else faulty at.span IntegerLiteralOutOfRange m) outside))
      given

  -- What a form gives is what a tree of this form gives.
  pub of_form : (found now : Found) (s : Surroundings) (form tree : Tree) (wanted : Option Ty) (m : FlowModel) → form ≡ tree
      → IfOk r (λ typed. Evaluates found now typed (place_of form) (form_row s form wanted m)) → IfOk r (λ typed. Evaluates found now typed (place_of tree) (form_row s tree wanted m))
  of_form found now s form tree wanted m is given = subst (λ (t : Tree). IfOk r (λ typed. Evaluates found now typed (place_of t) (form_row s t wanted m))) is given

  -- an integer literal
  pub of_integer : (found now : Found) (s : Surroundings) (tree : Tree) (at : Place) (word : ℕ) (wanted : Option Ty) (m : FlowModel) → integer_literal at word ≡ tree
      → now.nodes ≡ found.nodes → IfOk r (λ typed. RowEvaluates found.faults.items now.faults.items typed at (integer_row s at word m))
      → IfOk r (λ typed. Evaluates found now typed (place_of tree) (form_row s tree wanted m))
  of_integer found now s tree at word wanted m is same given =
      of_form found now s (integer_literal at word) tree wanted m is
      (row_only found now at (integer_row s at word m)
      (no_nodes (is_some (integer_of (lexeme_of s word))) (of_type int m) (faulty at.span IntegerLiteralOutOfRange m) refl refl)
      same given)

  -- An argument of `print`, if it is the only one.
  pub of_arguments : (found now : Found) (s : Surroundings) (at : Place) (arguments wanted : List Tree) (m : FlowModel) → wanted ≡ arguments
      → IfOk r (λ typed. Evaluates found now typed at (printed s (trees_of wanted) m)) → IfOk r (λ typed. Evaluates found now typed at (printed s (trees_of arguments) m))
  of_arguments found now s at arguments wanted m is given = subst (λ (ts : List Tree). IfOk r (λ typed. Evaluates found now typed at (printed s (trees_of ts) m))) is given

  -- no argument of `print`, or more than one
  pub of_other_arguments : (found : Found) (s : Surroundings) (at : Place) (arguments : List Tree) (m after : FlowModel) (ty : Ty)
      → (length arguments ≡ 1 → ⊥) → ty ≡ invalid → after ≡ m
      → IfOk r (λ typed. typed_of typed ≡ of_type ty after) → IfOk r (λ typed. typed.at ≡ at)
      → IfOk r (λ typed. Evaluates found found typed at (printed s (trees_of arguments) m))
  of_other_arguments found s at arguments m after ty other is_invalid same row place =
      let says : of_type invalid m ≡ printed s (trees_of arguments) m = says_nothing s arguments m other in
      subst (λ (e : Evaluation). IfOk r (λ typed. Evaluates found found typed at e)) says
      (row_only found found at (of_type invalid m) refl refl
      (plain_row found.faults.items at (of_type invalid m)
      (IfOk-weaker r (λ typed. typed_of typed ≡ of_type ty after) (λ typed. typed_of typed ≡ of_type invalid m)
      (λ typed is. is ∙ ap (λ (t : Ty). of_type t after) is_invalid ∙ ap (of_type invalid) same)
      row)
      place))

-- Parentheses hand on what the expression in them gives.
pub of_parenthesis : {found now : Found} {typed : Typed} {place : Place} (handed : Typed) (s : Surroundings) (tree inner : Tree) (at : Place) (wanted : Option Ty) (m : FlowModel)
    → parenthesis at inner ≡ tree → handed.at ≡ at → typed_of handed ≡ typed_of typed → Evaluates found now typed place (evaluate s inner wanted m)
    → Evaluates found now handed (place_of tree) (form_row s tree wanted m)
of_parenthesis {found} {now} handed s tree inner at wanted m is stands same given =
    subst (λ (t : Tree). Evaluates found now handed (place_of t) (form_row s t wanted m)) is
    (record {
      place_is = stands;
      type_is = ap (λ (v : Evaluation). v.ty) same ∙ given.type_is;
      after_is = ap (λ (v : Evaluation). v.after) same ∙ given.after_is;
      when_true_is = ap (λ (v : Evaluation). v.when_true) same ∙ given.when_true_is;
      when_false_is = ap (λ (v : Evaluation). v.when_false) same ∙ given.when_false_is;
      faults_are = given.faults_are;
      nodes_are = given.nodes_are;
    })
