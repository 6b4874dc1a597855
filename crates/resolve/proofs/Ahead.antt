-- A loop over parts: what they all give is what was found so far, and then what the rest gives.
use Rattle.std.proofs.Common.{◌≡◌, ◌++◌, sym, ap, ◌∙◌, append_assoc}
use Rattle.flow_model.specs.Flow.{FlowModel}
use Rattle.judgement.specs.Given.{Outcome, and_then}
use Rattle.resolve.specs.Judged.{Gives}
use Rattle.resolve.specs.Said.{said_more}
use Rattle.resolve.specs.declared.judge.Found.{Found}
use Rattle.resolve.proofs.Saying.{said_twice}

-- of the outcome of the whole, what was found now comes before that of the rest
pub record Ahead (start now : Found) (whole rest : Outcome) : Type 0 where
  pub after_is : whole.after ≡ rest.after
  pub faults_are : start.faults.items ++ whole.faults ≡ now.faults.items ++ rest.faults
  pub nodes_are : said_more start.nodes whole.nodes ≡ said_more now.nodes rest.nodes

-- one part more
pub ahead_next : {start now next : Found} {whole first : Outcome} (rest : FlowModel → Outcome) {model : FlowModel}
    → Ahead start now whole (and_then first rest) → Gives now next model first → Ahead start next whole (rest model)
ahead_next {start} {now} {next} {whole} {first} rest {model} so_far gives = record {
  after_is = so_far.after_is ∙ ap (λ (m : FlowModel). (rest m).after) (sym gives.after_is);
  faults_are =
      so_far.faults_are
      ∙ sym (append_assoc now.faults.items first.faults (rest first.after).faults)
      ∙ ap (λ fs. fs ++ (rest first.after).faults) (sym gives.faults_are)
      ∙ ap (λ (m : FlowModel). next.faults.items ++ (rest m).faults) (sym gives.after_is);
  nodes_are =
      so_far.nodes_are
      ∙ sym (said_twice now.nodes first.nodes (rest first.after).nodes)
      ∙ ap (λ ns. said_more ns (rest first.after).nodes) (sym gives.nodes_are)
      ∙ ap (λ (m : FlowModel). said_more next.nodes (rest m).nodes) (sym gives.after_is);
}
