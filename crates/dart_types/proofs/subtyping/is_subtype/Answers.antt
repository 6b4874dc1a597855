use Rattle.std.proofs.Common.{◌∙◌}
use Rattle.dart_types.proofs.Derives.{is_sub}
use Rattle.dart_types.proofs.Steps.{rooted, through, onto, back}
use Rattle.dart_types.proofs.subtyping.is_subtype.Goals as goal

-- the forms are those of the types themselves, since each variable stands for itself
pub returns-clause-rules : goal.returns-clause-rules
returns-clause-rules c =
    let table = c.args.rows.now.table in
    let left = c.form.ensures ∙ rooted c.root-root.result c.root-root.ensures c.args.s.now in
    let right = c.form-2.ensures ∙ rooted c.root-root.result c.root-root.ensures c.args.t.now in
    through (back table left right) (onto table left right) c.is_below.ensures

pub returns-clause-test : goal.returns-clause-test
returns-clause-test c =
    let table = c.args.rows.now.table in
    let left = c.form.ensures ∙ rooted c.root-root.result c.root-root.ensures c.args.s.now in
    let right = c.form-2.ensures ∙ rooted c.root-root.result c.root-root.ensures c.args.t.now in
    let rules = through (back table left right) (onto table left right) c.is_below.ensures in
    is_sub table c.args.rows.now.formed c.args.s.now c.args.t.now c.is_below.result rules.0 rules.1
