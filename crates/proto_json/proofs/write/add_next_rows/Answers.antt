use Rattle.std.proofs.Common.{◌≡◌, ◌+◌, ◌++◌, ◌∷◌, [], ap, ◌∙◌, sym, flat_map, take}
use Rattle.std.proofs.lemmas.List.{take_more, flat_map_more}
use Rattle.proto_json.specs.RowTexts.{next_row_text}
use Rattle.proto_json.proofs.write.add_next_rows.Goals as goal

pub loop-row-preserved : goal.loop-row-preserved
loop-row-preserved c =
    let front = c.args.text.now.items in
    let row = c.row-item.result in
    let passed = take c.loop-row.row-index c.args.rows.now in
    let one_more : take (c.loop-row.row-index + 1) c.args.rows.now ≡ passed ++ row ∷ [] =
    take_more c.args.rows.now c.loop-row.row-index row c.loop-row-test.true ∙ ap (λ item. passed ++ item ∷ []) (sym c.row-item.is) in
    c.in_ok-add_next_row.ensures ∙ ap (λ text. text ++ next_row_text row) c.loop-row.invariant
    ∙ flat_map_more next_row_text front passed row ∙ ap (λ rows. front ++ flat_map next_row_text rows) (sym one_more)
