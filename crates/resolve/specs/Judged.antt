-- What the code of the judge does with a row of the rules.
use Rattle.std.specs.Prelude.{◌≡◌, List, [], ◌++◌, Option, Result, IfOk, OnOk}
use Rattle.std.specs.Global.{Global}
use Rattle.std.specs.declared.rc.Rc.{Rc}
use Rattle.std.specs.declared.vec.Vec.{Vec}
use Rattle.dart_tree.specs.Tree.{Tree}
use Rattle.dart_tree.specs.Places.{place_of}
use Rattle.dart_tree.specs.declared.places.Place.{Place}
use Rattle.flow_model.specs.Flow.{FlowModel}
use Rattle.judgement.specs.declared.fault.Fault.{Fault}
use Rattle.judgement.specs.Given.{Evaluation, Outcome}
use Rattle.judgement.specs.Surroundings.{Surroundings}
use Rattle.judgement.specs.Judgement.{run}
use Rattle.judgement.specs.NodeFacts.{NodeFacts}
use Rattle.resolve.specs.declared.judge.Found.{Found}
use Rattle.resolve.specs.declared.judge.Typed.{Typed}
use Rattle.resolve.specs.Said.{said_more}

-- what an expression gives that was judged, its diagnostics and nodes aside
abbrev pub typed_of : Typed → Evaluation
typed_of typed = record {
  ty = typed.ty;
  after = typed.after.value;
  when_true = typed.when_true.value;
  when_false = typed.when_false.value;
  faults = [];
  nodes = [];
}

-- the expression stands at the place, has the type and hands on the models
pub record Has (typed : Typed) (at : Place) (e : Evaluation) : Type 0 where
  pub place_is : typed.at ≡ at
  pub type_is : typed.ty ≡ e.ty
  pub after_is : typed.after.value ≡ e.after
  pub when_true_is : typed.when_true.value ≡ e.when_true
  pub when_false_is : typed.when_false.value ≡ e.when_false

-- the same, and its diagnostics were added to those found before
pub record RowEvaluates (found now : List Fault) (typed : Typed) (at : Place) (e : Evaluation) : Type 0 where
  pub place_is : typed.at ≡ at
  pub type_is : typed.ty ≡ e.ty
  pub after_is : typed.after.value ≡ e.after
  pub when_true_is : typed.when_true.value ≡ e.when_true
  pub when_false_is : typed.when_false.value ≡ e.when_false
  pub faults_are : now ≡ found ++ e.faults

-- the same, and what is said of its nodes was added to what was said before, if that is kept
pub record Evaluates (found now : Found) (typed : Typed) (at : Place) (e : Evaluation) : Type 0 where
  pub place_is : typed.at ≡ at
  pub type_is : typed.ty ≡ e.ty
  pub after_is : typed.after.value ≡ e.after
  pub when_true_is : typed.when_true.value ≡ e.when_true
  pub when_false_is : typed.when_false.value ≡ e.when_false
  pub faults_are : now.faults.items ≡ found.faults.items ++ e.faults
  pub nodes_are : now.nodes ≡ said_more found.nodes e.nodes

-- the model is the one after the outcome, and its diagnostics were added to those found before
pub record RowGives (found now : List Fault) (model : FlowModel) (outcome : Outcome) : Type 0 where
  pub after_is : model ≡ outcome.after
  pub faults_are : now ≡ found ++ outcome.faults

-- the same, and what is said of its nodes was added to what was said before, if that is kept
pub record Gives (found now : Found) (model : FlowModel) (outcome : Outcome) : Type 0 where
  pub after_is : model ≡ outcome.after
  pub faults_are : now.faults.items ≡ found.faults.items ++ outcome.faults
  pub nodes_are : now.nodes ≡ said_more found.nodes outcome.nodes

-- The same of the result of a call, if there is one.

abbrev pub IfHas : {E : Type 0} → Result Typed E → Place → Evaluation → Type 0
IfHas result at e = IfOk result (λ typed. Has typed at e)

abbrev pub IfRowEvaluates : {E : Type 0} → (found now : Vec Fault Global) → Result Typed E → Place → Evaluation → Type 0
IfRowEvaluates found now result at e = IfOk result (λ typed. RowEvaluates found.items now.items typed at e)

abbrev pub IfEvaluates : {E : Type 0} → (found now : Found) → Result Typed E → Place → Evaluation → Type 0
IfEvaluates found now result at e = IfOk result (λ typed. Evaluates found now typed at e)

-- of an expression, which stands where it stands
abbrev pub IfJudges : {E : Type 0} → (found now : Found) → Result Typed E → Tree → Evaluation → Type 0
IfJudges found now result tree e = IfEvaluates found now result (place_of tree) e

abbrev pub IfRowGives : {E : Type 0} → (found now : Vec Fault Global) → Result (Rc FlowModel Global) E → Outcome → Type 0
IfRowGives found now result outcome = IfOk result (λ after. RowGives found.items now.items after.value outcome)

abbrev pub IfGives : {E : Type 0} → (found now : Found) → Result (Rc FlowModel Global) E → Outcome → Type 0
IfGives found now result outcome = IfOk result (λ after. Gives found now after.value outcome)

-- what a statement gives, with these surroundings and this model before it
abbrev pub IfRuns : {E : Type 0} → (found now : Found) → Result (Rc FlowModel Global) E → Surroundings → Tree → FlowModel → Type 0
IfRuns found now result s tree m = IfGives found now result (run s tree m)

-- these were added to what is listed
abbrev pub Adds : {X A E : Type 0} → (old new : Vec X Global) → Result A E → List X → Type 0
Adds old new result more = OnOk result (new.items ≡ old.items ++ more)

-- this was said of nodes behind what was said of others, if that is kept
abbrev pub Says : {A E : Type 0} → (old new : Option (List NodeFacts)) → Result A E → List NodeFacts → Type 0
Says old new result more = OnOk result (new ≡ said_more old more)
