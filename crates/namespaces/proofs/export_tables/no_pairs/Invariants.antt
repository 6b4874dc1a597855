use Rattle.std.proofs.Common.{[], ◌≡◌, replicate}
use Rattle.namespaces.proofs.export_tables.no_pairs.Given as goal

abbrev pub invariant-loop : goal.invariant-loop
invariant-loop l = l.all.items ≡ replicate l.counter []
