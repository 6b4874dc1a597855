use Rattle.dart_types.proofs.Formed.{row_id, formed_class, formed_super, super_depth}
use Rattle.dart_types.proofs.laws.class_row_laws.Goals as goal

pub returns : goal.returns
returns c =
    let table = c.args._rows.now.table in
    let wf = c.args._rows.now.formed in
    record {
      ids = row_id table wf;
      formed = formed_class table wf;
      supertypes = formed_super table wf;
      depths = super_depth table wf;
    }
