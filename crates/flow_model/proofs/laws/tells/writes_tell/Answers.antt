use Rattle.std.proofs.Common.{refl}
use Rattle.flow_model.proofs.WrittenTypes.{chain_fits}
use Rattle.flow_model.proofs.laws.tells.writes_tell.Goals as goal

pub returns : goal.returns
returns c = record {
  assigned = λ written l. refl;
  unassigned = λ written l. refl;
  types = λ written l. chain_fits c.args._rows.now.table c.row_laws.ensures written l;
}
