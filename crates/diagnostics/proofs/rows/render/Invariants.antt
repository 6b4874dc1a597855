use Rattle.std.proofs.Common.{◌≡◌, map, take}
use Rattle.diagnostics.specs.Rendering.{row_of}
use Rattle.diagnostics.proofs.rows.render.Given as goal

-- the positions are those of the text, and the rows those of the faults that the loop has gone over
abbrev pub invariant-loop-fault : goal.invariant-loop-fault
invariant-loop-fault l = record {
  text : l.positions ≡ l.text;
  rows : l.rows.items ≡ map (row_of l.file l.text) (take l.fault-index l.faults);
}
