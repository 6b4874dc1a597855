-- The rows of faults.
use Rattle.std.specs.Prelude.{ℕ, ◌-◌, List, ◌++◌, map, codes, decimal}
use Rattle.std.specs.List.{flat_map}
use Rattle.judgement.specs.declared.fault.Fault.{Fault}
use Rattle.proto_json.specs.declared.reply.ErrorRow.{ErrorRow}
use Rattle.proto_json.specs.declared.reply.Severity.TheVariants.{Error}
use Rattle.dart_text.specs.declared.position.Position.{Position}
use Rattle.dart_text.specs.Lines.{position_of}
use Rattle.diagnostics.specs.Codes.{name_of, message_of, kind_of}

-- the row of a fault in a file, which starts at this position
abbrev pub row_at : (file : List ℕ) → Position → Fault → ErrorRow
row_at file position fault = record {
  code = name_of fault.code;
  location = record {
    file = file;
    offset = fault.span.start;
    length = fault.span.end - fault.span.start;
    start_line = position.line;
    start_column = position.column;
  };
  message = message_of fault.code;
  severity = Error;
  kind = kind_of fault.code;
}

-- the row of a fault: it starts at the position of its first code unit
abbrev pub row_of : (file text : List ℕ) → Fault → ErrorRow
row_of file text fault = row_at file (position_of fault.span.start text) fault

-- the rows of the faults of a file's text, one for each, in their order
abbrev pub rows_of : (file text : List ℕ) → List Fault → List ErrorRow
rows_of file text faults = map (row_of file text) faults

-- the line that a row is printed as: the path, the line, the column, the code and the sentence
abbrev pub line_of_row : ErrorRow → List ℕ
line_of_row row =
    row.location.file ++ codes ":" ++ decimal row.location.start_line ++ codes ":" ++ decimal row.location.start_column
    ++ codes ": " ++ row.code ++ codes ": " ++ row.message ++ codes "\n"

-- the lines of rows, in their order
abbrev pub lines_of_rows : List ErrorRow → List ℕ
lines_of_rows rows = flat_map line_of_row rows
