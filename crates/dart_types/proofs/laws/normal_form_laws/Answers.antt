use Rattle.dart_types.proofs.NormalForms.{settles, normal-normal}
use Rattle.dart_types.proofs.NormalPut.{normal-put-normal}
use Rattle.dart_types.proofs.laws.normal_form_laws.Goals as goal

pub returns : goal.returns
returns c =
    let table = c.args._rows.now.table in
    let wf = c.args._rows.now.formed in
    record {
      below = λ t. (settles table wf t).0;
      above = λ t. (settles table wf t).1;
      settled = normal-normal;
      put = normal-put-normal;
    }
