use Rattle.std.proofs.Common.{◌∙◌, sym}
use Rattle.dart_types.specs.Tables.{class_of, bound_of}
use Rattle.dart_types.proofs.Joined.{wider_from}
use Rattle.dart_types.proofs.Wider.{some_of, over_wider, sub_wider, sub_back, super_wider, super_back, inherits_wider, inherits_back}
use Rattle.dart_types.proofs.laws.more_rows_laws.Goals as goal

pub returns : goal.returns
returns c =
    let small = c.args._small.now.table in
    let large = c.args._large.now.table in
    let wf = c.args._small.now.formed in
    let large_wf = c.args._large.now.formed in
    let wider = wider_from small large c.requires large_wf.classes_in_order large_wf.vars_in_order in
    record {
      over = over_wider small large wider;
      subtypes = λ s t o p. (sub_wider small large wider, sub_back small large wider wf large_wf o p);
      rows = λ k h. let row = some_of (class_of small k) h in row.1 ∙ sym (wider.classes k row.0 row.1);
      bounds = λ x h. let b = some_of (bound_of small x) h in b.1 ∙ sym (wider.vars x b.0 b.1);
      superinterfaces = λ k v h. let row = some_of (class_of small k) h in (super_wider small large wider, λ s. (super_back small large wider wf row.0 row.1 s).0);
      kept = λ k v h. let row = some_of (class_of small k) h in ((λ s. (inherits_wider small large wider s.0, s.1)), (λ s. ((inherits_back small large wider wf row.0 row.1 s.0).0, s.1)));
    }
