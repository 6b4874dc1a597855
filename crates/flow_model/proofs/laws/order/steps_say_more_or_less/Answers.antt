use Rattle.std.proofs.Common.{refl}
use Rattle.flow_model.specs.Flow.{facts_of}
use Rattle.flow_model.specs.Promote.{append_facts, non_null_facts, promote_facts}
use Rattle.flow_model.specs.Steps.{exit_of, conservative_facts}
use Rattle.flow_model.proofs.Found.{none_from_is_none}
use Rattle.flow_model.proofs.SaysMore.{tested_says_more, non_null_says_more, append_says_more, conservative_says_less}
use Rattle.flow_model.proofs.Implied.{declare_says_more, at_local_says_more, implies_change, end_says_less, unreached_implies}
use Rattle.flow_model.proofs.ImpliedPairs.{numbers_stay, assign_says_more}
use Rattle.flow_model.proofs.laws.order.steps_say_more_or_less.Goals as goal

pub returns : goal.returns
returns c =
    let table = c.args._rows.now.table in
    record {
      declare = λ m local absent. declare_says_more m local (none_from_is_none (facts_of m local.var) absent);
      promote = λ m var to. at_local_says_more m var (promote_facts table to) (λ l. refl) (tested_says_more table to);
      non_null = λ m var. at_local_says_more m var (non_null_facts table) (λ l. refl) (non_null_says_more table);
      append = λ m var to. at_local_says_more m var (append_facts table to) (λ l. refl) (append_says_more table to);
      assign = λ m var written. assign_says_more table written m var;
      end = λ m vars. end_says_less m vars;
      conservative_join = λ m written captured. implies_change (conservative_facts written captured) (numbers_stay written captured) m (conservative_says_less written captured);
      exit = λ m k. unreached_implies (exit_of m) k refl;
    }
