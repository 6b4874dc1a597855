use Rattle.flow_model.proofs.Currents.{non_null_promotes}
use Rattle.flow_model.proofs.laws.tells.non_null_tells.Goals as goal

pub returns : goal.returns
returns c = λ l. non_null_promotes c.args._rows.now.table l
