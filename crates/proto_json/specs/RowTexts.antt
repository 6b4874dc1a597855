-- How the errors of a reply are written one after another.
use Rattle.std.specs.Prelude.{ℕ, List, [], ◌∷◌, ◌++◌, codes, flat_map}
use Rattle.json.specs.Print.{quoted}
use Rattle.serde_json.specs.Written.{compact_text}
use Rattle.proto_json.specs.declared.reply.ErrorRow.{ErrorRow}
use Rattle.proto_json.specs.Replies.{row_data}

-- the text of an error
abbrev pub row_text : ErrorRow → List ℕ
row_text row = compact_text (row_data row)

-- the same behind another one, with a comma between
abbrev pub next_row_text : ErrorRow → List ℕ
next_row_text row = codes "," ++ row_text row

-- the texts of errors, a comma between
abbrev pub rows_text : List ErrorRow → List ℕ
rows_text [] = []
rows_text (row ∷ rows) = row_text row ++ flat_map next_row_text rows

-- what stands before the errors in the reply to this id
abbrev pub errors_front : (id : List ℕ) → List ℕ
errors_front id = codes "{\"id\":" ++ quoted id ++ codes ",\"result\":{\"errors\":["

-- what stands behind them
abbrev pub errors_back : List ℕ
errors_back = codes "]}}"
