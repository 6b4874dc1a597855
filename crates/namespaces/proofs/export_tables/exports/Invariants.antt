use Rattle.std.proofs.Common.{ℕ, ◌<◌, [], length, replicate}
use Rattle.namespaces.specs.Namespaces.{CoversLibrary, Gains}
use Rattle.namespaces.proofs.export_tables.exports.Given as goal

-- the libraries so far
abbrev pub invariant-loop-place : goal.invariant-loop-place
invariant-loop-place l = record {
  gains : Gains l.libraries (replicate (length l.libraries) []) l.all.items;
  covers : (k : ℕ) → k < l.place → CoversLibrary l.libraries k l.all.items;
}
