use Rattle.std.proofs.Common.{◌≡◌, take}
use Rattle.diagnostics.specs.Rendering.{lines_of_rows}
use Rattle.diagnostics.proofs.lines.lines_of.Given as goal

-- the lines are those of the rows that the loop has gone over
abbrev pub invariant-loop-row : goal.invariant-loop-row
invariant-loop-row l = l.lines.items ≡ lines_of_rows (take l.row-index l.rows)
