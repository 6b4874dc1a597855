use Rattle.std.proofs.Common.{refl}
use Rattle.flow_model.specs.Promote.{append_facts, non_null_facts, promote_facts}
use Rattle.flow_model.specs.Assign.{assign_facts}
use Rattle.flow_model.specs.Restrict.{restrict_facts}
use Rattle.flow_model.proofs.SameScope.{same-declare, same-end, scope-at_local, scope-conservative, length_from_scope}
use Rattle.flow_model.proofs.Pairs.{scope-paired}
use Rattle.flow_model.proofs.JoinLaws.{scope-join_of}
use Rattle.flow_model.proofs.laws.steps.steps_keep_the_scope.Goals as goal

pub returns : goal.returns
returns c =
    let table = c.args._rows.now.table in
    record {
      declare = λ m n local. same-declare m n local;
      end = λ m n vars. same-end m n vars;
      exit = λ m. refl;
      promote = λ m var to. scope-at_local m var (promote_facts table to) (λ l. refl);
      non_null = λ m var. scope-at_local m var (non_null_facts table) (λ l. refl);
      append = λ m var to. scope-at_local m var (append_facts table to) (λ l. refl);
      assign = λ m var written. scope-at_local m var (assign_facts table written) (λ l. refl);
      conservative_join = λ m written captured. scope-conservative written captured m.locals;
      join = λ m n. scope-join_of m n;
      restrict = λ m n written captured same. scope-paired (restrict_facts table written captured) (λ l k. refl) m.locals n.locals (length_from_scope m.locals n.locals same);
    }
