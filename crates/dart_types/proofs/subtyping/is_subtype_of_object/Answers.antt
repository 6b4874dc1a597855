use Rattle.std.proofs.Common.{◌∙◌, refl}
use Rattle.dart_types.specs.Heads.{object}
use Rattle.dart_types.proofs.Derives.{is_sub}
use Rattle.dart_types.proofs.Steps.{rooted, through, onto, back}
use Rattle.dart_types.proofs.subtyping.is_subtype_of_object.Goals as goal

-- the form is that of the type itself, since each variable stands for itself
pub returns-clause-rules : goal.returns-clause-rules
returns-clause-rules c =
    let table = c.args.rows.now.table in
    let left = c.form.ensures ∙ rooted c.root-root.result c.root-root.ensures c.args.s.now in
    through (back table {t = object} left refl) (onto table {t = object} left refl) c.is_below.ensures

pub returns-clause-test : goal.returns-clause-test
returns-clause-test c =
    let table = c.args.rows.now.table in
    let left = c.form.ensures ∙ rooted c.root-root.result c.root-root.ensures c.args.s.now in
    let rules = through (back table {t = object} left refl) (onto table {t = object} left refl) c.is_below.ensures in
    is_sub table c.args.rows.now.formed c.args.s.now object c.is_below.result rules.0 rules.1
