use Rattle.std.proofs.Common.{Option, sym, ◌∙◌, ap}
use Rattle.std.specs.Prelude.{find}
use Rattle.std.specs.Option.{option_or}
use Rattle.std.proofs.lemmas.List.Folds.{find-append}
use Rattle.dart_types.specs.Same.{same_class}
use Rattle.dart_types.specs.declared.class_rows.ClassRow.{ClassRow}
use Rattle.dart_types.proofs.Groups.{right_found}
use Rattle.dart_types.proofs.row_lookups.row_beside.Goals as goal

-- an own class
pub returns-in-Some : goal.returns-in-Some
returns-in-Some c =
    let p = λ (row : ClassRow). same_class row.id c.args.class in
    let xs = c.args.classes.now in
    let ys = c.args.below.now.table.classes in
    sym (find-append p xs ys ∙ ap (λ (o : Option ClassRow). option_or o (find p ys)) (sym c.in-Some.ensures))

-- else one below
pub returns-in-None : goal.returns-in-None
returns-in-None c =
    c.class.ensures ∙ sym (right_found (λ (row : ClassRow). same_class row.id c.args.class) c.args.classes.now c.args.below.now.table.classes (sym c.in-None.ensures))
