use Rattle.dart_types.proofs.Formed.{declared_var, formed_bound}
use Rattle.dart_types.proofs.MeasureBounds.{bound_weight, bound_deepness}
use Rattle.dart_types.proofs.laws.bound_laws.Goals as goal

pub returns : goal.returns
returns c =
    let table = c.args._rows.now.table in
    let wf = c.args._rows.now.formed in
    record {
      declared = declared_var table wf;
      earlier = λ x b e. (formed_bound table wf x b e).0;
      over = λ x b e. (formed_bound table wf x b e).1;
      weights = bound_weight table wf;
      deepness = bound_deepness table wf;
    }
