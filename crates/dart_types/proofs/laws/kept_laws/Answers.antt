use Rattle.std.specs.Prelude.{◌+◌}
use Rattle.dart_types.specs.Tables.{depth_of}
use Rattle.dart_types.proofs.Supers.{inherited}
use Rattle.dart_types.proofs.Keeping.{super_kept, none_too_large, too_large_none}
use Rattle.dart_types.proofs.KeptOf.{kept_sound, kept_found}
use Rattle.dart_types.proofs.TooLarge.{told_sound, told_complete}
use Rattle.dart_types.proofs.laws.kept_laws.Goals as goal

pub returns : goal.returns
returns c =
    let table = c.args._rows.now.table in
    let wf = c.args._rows.now.formed in
    record {
      kept = λ k v h. (inherited table wf h.0, h.1);
      all_kept = λ nothing k v h. super_kept table wf nothing h;
      nothing_out = (λ nothing. too_large_none table wf nothing, none_too_large table wf);
      computed = λ k v. (kept_found table wf k v, kept_sound table (depth_of table k + 1) k v);
      told = λ k. (told_sound table wf k, told_complete table wf k);
    }
