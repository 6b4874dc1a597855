use Rattle.dart_types.proofs.Derives.{sub_sound, sub_complete}
use Rattle.dart_types.proofs.laws.subtype_test_law.Goals as goal

pub returns : goal.returns
returns c = λ s t.
    (sub_sound c.args._rows.now.table s t, sub_complete c.args._rows.now.table c.args._rows.now.formed s t)
