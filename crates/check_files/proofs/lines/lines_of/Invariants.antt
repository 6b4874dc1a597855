use Rattle.std.proofs.Common.{◌≡◌, take}
use Rattle.diagnostics.specs.Rendering.{lines_of_rows}
use Rattle.check_files.specs.Lent.{table_view}
use Rattle.check_files.specs.Lines.{HasText, rows_of, texts_of}
use Rattle.check_files.proofs.lines.lines_of.Given as goal

abbrev pub invariant-loop-found : goal.invariant-loop-found
invariant-loop-found l =
    HasText (texts_of (table_view l.files)) l.place l.positions
    × (l.lines.items ≡ lines_of_rows (rows_of (texts_of (table_view l.files)) (take l.found-index l.findings)))
