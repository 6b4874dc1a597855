use Rattle.std.proofs.Common.{◌≡◌, ◌++◌, flat_map, take}
use Rattle.proto_json.specs.RowTexts.{next_row_text}
use Rattle.proto_json.proofs.write.add_next_rows.Given as goal

-- behind the text stand those of the rows that the loop has gone over
abbrev pub invariant-loop-row : goal.invariant-loop-row
invariant-loop-row l = l.text.items ≡ l.fn.text.items ++ flat_map next_row_text (take l.row-index l.rows)
