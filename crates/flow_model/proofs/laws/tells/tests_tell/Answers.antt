use Rattle.flow_model.proofs.Currents.{test_is_of_interest, test_promotes, append_promotes}
use Rattle.flow_model.proofs.laws.tells.tests_tell.Goals as goal

pub returns : goal.returns
returns c =
    let table = c.args._rows.now.table in
    record {
      interest = λ to l. test_is_of_interest table to l;
      promoted = λ to l. test_promotes table to l;
      appended = λ to l. append_promotes table to l;
    }
