use Rattle.flow_model.proofs.Descents.{start_descends, declare_keeps, end_keeps, promote_keeps, non_null_keeps, append_keeps, assign_keeps, conservative_keeps, join_keeps, restrict_keeps}
use Rattle.flow_model.proofs.laws.kept.chains_descend.Goals as goal

pub returns : goal.returns
returns c =
    let table = c.args._rows.now.table in
    let laws = c.bound_table_laws.ensures in
    record {
      start = λ vars. start_descends table laws vars;
      declare = λ m local. declare_keeps table laws m local;
      end = λ m vars. end_keeps table laws m vars;
      exit = λ m all. all;
      promote = λ m var to. promote_keeps table laws m var to;
      non_null = λ m var. non_null_keeps table laws m var;
      append = λ m var to. append_keeps table laws m var to;
      assign = λ nothing m var written. assign_keeps table laws m var nothing written;
      conservative_join = λ m written captured. conservative_keeps table laws m written captured;
      join = λ nothing a b. join_keeps table laws nothing a b;
      restrict = λ nothing a b written captured. restrict_keeps table laws nothing a b written captured;
    }
