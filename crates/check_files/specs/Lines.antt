-- The lines that findings are printed as.
use Rattle.std.specs.Prelude.{◌≡◌, ℕ, List, [], ◌∷◌, map, slice_index_or, Option, Some, None}
use Rattle.diagnostics.specs.Rendering.{lines_of_rows, row_of as row_of_fault}
use Rattle.load_files.specs.Tables.{Table}
use Rattle.load_files.specs.declared.contents.FileContents.{FileContents}
use Rattle.proto_json.specs.declared.reply.ErrorRow.{ErrorRow}
use Rattle.libraries.specs.Naming.{core_path}
use Rattle.check_files.specs.Contents.{read_as}
use Rattle.check_files.specs.declared.findings.Finding.{Finding}

-- the path of a file, and the text as which it is read
abbrev pub text_of : (List ℕ × FileContents) → (List ℕ × List ℕ)
text_of file = (file.0, read_as file.1)

-- those of all files, `dart:core` first
abbrev pub texts_of : Table → List (List ℕ × List ℕ)
texts_of table = (core_path, []) ∷ map text_of table

-- those of the file at a place
abbrev pub text_at : List (List ℕ × List ℕ) → (place : ℕ) → (List ℕ × List ℕ)
text_at texts place = slice_index_or texts place (core_path, [])

-- the row of a finding in a file with a text
abbrev pub row_in : (List ℕ × List ℕ) → Finding → ErrorRow
row_in text found = row_of_fault text.0 text.1 found.fault

-- the row of a finding
abbrev pub row_of : List (List ℕ × List ℕ) → Finding → ErrorRow
row_of texts found = row_in (text_at texts found.file) found

-- the rows of findings, in their order
abbrev pub rows_of : List (List ℕ × List ℕ) → List Finding → List ErrorRow
rows_of texts findings = map (row_of texts) findings

-- the lines that findings among the files of a table are printed as
abbrev pub lines_of : Table → List Finding → List ℕ
lines_of table findings = lines_of_rows (rows_of (texts_of table) findings)

-- a file holds this text, or none and is read as the empty one
abbrev pub TextIs : (text : List ℕ) → (held : Option (List ℕ)) → Type 0
TextIs text None = text ≡ []
TextIs text (Some held) = held ≡ text

-- a text that was found before is that of the file at the place
abbrev pub HasText : List (List ℕ × List ℕ) → (place : ℕ) → (found : Option (List ℕ)) → Type 0
HasText texts place None = Unit {0}
HasText texts place (Some text) = text ≡ (text_at texts place).1
