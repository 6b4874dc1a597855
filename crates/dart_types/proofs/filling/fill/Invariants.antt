use Rattle.std.proofs.Common.{◌≡◌}
use Rattle.dart_types.specs.Entries.{table_of, among}
use Rattle.dart_types.specs.Gathering.{AreKnownTo}
use Rattle.dart_types.proofs.filling.fill.Given as goal

-- the rows are the same, and the first classes of this depth are known
abbrev pub invariant-loop-i : goal.invariant-loop-i
invariant-loop-i l =
    (table_of l.entries.items l.vars ≡ table_of l.initial.entries.items l.vars) × AreKnownTo l.depth l.i (among l.below.table l.initial.entries.items l.vars) l.entries.items
