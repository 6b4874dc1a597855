use Rattle.dart_types.proofs.Supers.{counted, superinterface_simple, superinterface_trans}
use Rattle.dart_types.proofs.laws.superinterface_laws.Goals as goal

pub returns : goal.returns
returns c =
    let table = c.args._rows.now.table in
    let wf = c.args._rows.now.formed in
    record {
      supertypes = λ k row v r h. superinterface_simple table wf h row r;
      counted = λ k d ts row r h. counted table wf h row r;
      further = λ k d ts row v r h i. superinterface_trans table wf h row r i;
    }
