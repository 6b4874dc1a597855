use Rattle.std.proofs.Common.{◌≡◌}
use Rattle.dart_types.specs.Entries.{table_of, among}
use Rattle.dart_types.specs.Gathering.{AreKnownBelow}
use Rattle.dart_types.proofs.filling.fill_all.Given as goal

-- the rows are the same, and the classes that are less far from Object are known
abbrev pub invariant-loop-depth : goal.invariant-loop-depth
invariant-loop-depth l =
    (table_of l.entries.items l.vars ≡ table_of l.initial.entries.items l.vars) × AreKnownBelow l.depth (among l.below.table l.initial.entries.items l.vars) l.entries.items
