use Rattle.std.proofs.Common.{◌≤◌, take}
use Rattle.std.specs.Prelude.{All}
use Rattle.dart_types.proofs.filling.greatest_depth.Given as goal

abbrev pub invariant-loop-entry : goal.invariant-loop-entry
invariant-loop-entry l = All (λ entry. entry.row.depth ≤ l.greatest) (take l.entry-index l.entries)
