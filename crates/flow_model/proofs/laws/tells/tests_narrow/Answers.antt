use Rattle.flow_model.proofs.Currents.{test_narrows, non_null_narrows, append_narrows}
use Rattle.flow_model.proofs.laws.tells.tests_narrow.Goals as goal

pub returns : goal.returns
returns c =
    let table = c.args._rows.now.table in
    let laws = c.bound_table_laws.ensures in
    record {
      promote = λ to l. test_narrows table laws to l;
      non_null = λ l. non_null_narrows table laws l;
      append = λ to l. append_narrows table laws to l;
    }
