use Rattle.flow_model.proofs.Captured.{start_promotes_none, declare_keeps, end_keeps, promote_keeps, non_null_keeps, append_keeps, assign_keeps, conservative_keeps, join_keeps, restrict_is_free}
use Rattle.flow_model.proofs.laws.kept.no_captured_local_is_promoted.Goals as goal

pub returns : goal.returns
returns c =
    let table = c.args._rows.now.table in
    record {
      start = λ vars. start_promotes_none vars;
      declare = λ m local. declare_keeps m local;
      end = λ m vars. end_keeps m vars;
      exit = λ m all. all;
      promote = λ m var to. promote_keeps table m var to;
      non_null = λ m var. non_null_keeps table m var;
      append = λ m var to. append_keeps table m var to;
      assign = λ m var written. assign_keeps table m var written;
      conservative_join = λ m written captured. conservative_keeps m written captured;
      join = λ a b. join_keeps a b;
      restrict = λ a b written captured. restrict_is_free table a b written captured;
    }
