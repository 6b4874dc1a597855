use Rattle.std.proofs.Common.{refl}
use Rattle.flow_model.specs.Promote.{append_facts, non_null_facts, promote_facts}
use Rattle.flow_model.proofs.SaysMore.{test_keeps, non_null_keeps, append_keeps}
use Rattle.flow_model.proofs.Implied.{at_local_implies}
use Rattle.flow_model.proofs.Currents.{current_alike}
use Rattle.flow_model.proofs.laws.order.tests_keep_the_order.Goals as goal

pub returns : goal.returns
returns c =
    let table = c.args._rows.now.table in
    record {
      promote = λ a b var to same. at_local_implies var (promote_facts table to) (promote_facts table to) (λ l. refl) (λ l. refl) a b (λ l m is_l is_m. test_keeps table to l m (current_alike a b var same l m is_l is_m));
      non_null = λ a b var same. at_local_implies var (non_null_facts table) (non_null_facts table) (λ l. refl) (λ l. refl) a b (λ l m is_l is_m. non_null_keeps table l m (current_alike a b var same l m is_l is_m));
      append = λ a b var to same. at_local_implies var (append_facts table to) (append_facts table to) (λ l. refl) (λ l. refl) a b (λ l m is_l is_m. append_keeps table to l m (current_alike a b var same l m is_l is_m));
    }
