use Rattle.std.proofs.Common.{◌<◌, ◌++◌, ◌∷◌, [], List, map, take, length, sym, ◌∙◌, ap}
use Rattle.std.proofs.lemmas.List.{take_more, get_or-map, length-map}
use Rattle.dart_types.specs.declared.ids.ClassId.{ClassId}
use Rattle.dart_types.specs.declared.class_rows.ClassRow.{ClassRow}
use Rattle.dart_types.proofs.too_large.ids_of.Goals as goal

pub loop-row-preserved : goal.loop-row-preserved
loop-row-preserved c =
    let id = λ (row : ClassRow). row.id in
    let rows = c.args.classes.now in
    let i = c.loop-row.row-index in
    let row = c.row-item.result in
    let within : i < length (map id rows) = rw (length-map rows id) c.loop-row-test.true in
    c.in_ok-push.ensures.items
    ∙ ap (λ (ys : List ClassId). ys ++ row.id ∷ []) c.loop-row.invariant
    ∙ ap (λ (y : ClassId). take i (map id rows) ++ y ∷ []) (ap id c.row-item.is ∙ sym (get_or-map id rows i row row.id c.loop-row-test.true))
    ∙ sym (take_more (map id rows) i row.id within)
