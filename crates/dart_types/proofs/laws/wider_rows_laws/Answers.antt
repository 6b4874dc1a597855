use Rattle.dart_types.proofs.Joined.{wider_from}
use Rattle.dart_types.proofs.Wider.{over_wider, sub_wider, sub_back, super_wider, super_back, inherits_wider, inherits_back}
use Rattle.dart_types.proofs.laws.wider_rows_laws.Goals as goal

pub returns : goal.returns
returns c =
    let small = c.args._small.now.table in
    let large = c.args._large.now.table in
    let wf = c.args._small.now.formed in
    let large_wf = c.args._large.now.formed in
    let wider = wider_from small large c.requires large_wf.classes_in_order large_wf.vars_in_order in
    record {
      classes = wider.classes;
      bounds = wider.vars;
      over = over_wider small large wider;
      sub_large = λ s t a. sub_wider small large wider a;
      sub_small = λ s t o p a. sub_back small large wider wf large_wf o p a;
      superinterface_large = λ k v h. super_wider small large wider h;
      superinterface_small = λ k row v r h. (super_back small large wider wf row r h).0;
      kept_large = λ k v h. (inherits_wider small large wider h.0, h.1);
      kept_small = λ k row v r h. ((inherits_back small large wider wf row r h.0).0, h.1);
    }
