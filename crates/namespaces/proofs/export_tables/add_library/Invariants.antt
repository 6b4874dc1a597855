use Rattle.std.proofs.Common.{ℕ, ◌<◌}
use Rattle.namespaces.specs.Namespaces.{CoversAll, Gains}
use Rattle.namespaces.proofs.export_tables.add_library.Given as goal

-- the declarations so far
abbrev pub invariant-loop-at : goal.invariant-loop-at
invariant-loop-at l = record {
  gains : Gains l.libraries l.fn.all.items l.all.items;
  covers : (k : ℕ) → k < l.at → CoversAll l.libraries l.place k l.all.items;
}
