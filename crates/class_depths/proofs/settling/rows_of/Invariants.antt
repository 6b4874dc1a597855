use Rattle.std.proofs.Common.{◌≡◌, [], map, take}
use Rattle.std.specs.Prelude.{All}
use Rattle.dart_types.specs.declared.class_rows.ClassRow.{ClassRow}
use Rattle.class_depths.specs.Settled.{declared_of}
use Rattle.class_depths.specs.Marked.{IsDepthOver}
use Rattle.class_depths.specs.Climbing.{Climbing}
use Rattle.class_depths.proofs.settling.rows_of.Given as goal

-- the rows so far, with their depths
abbrev pub invariant-loop-place : goal.invariant-loop-place
invariant-loop-place l =
    Climbing l.below.table l.declared l.marks.items []
    × (map declared_of l.rows.items ≡ take l.place l.declared)
    × All (λ (row : ClassRow). IsDepthOver l.below.table l.declared row.supers row.depth) l.rows.items
