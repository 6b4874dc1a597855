use Rattle.flow_model.proofs.Proper.{tested_proper, without_null_proper, known_proper, appended_proper}
use Rattle.flow_model.proofs.laws.tells.appended_types_are_proper_subtypes.Goals as goal

pub returns : goal.returns
returns c =
    let table = c.args._rows.now.table in
    let laws = c.bound_table_laws.ensures in
    record {
      promote = λ to current. tested_proper table laws to current;
      non_null = λ current. without_null_proper table laws current;
      append = λ to current. known_proper table laws to current;
      assign = λ written current interest. appended_proper table laws written current interest;
    }
