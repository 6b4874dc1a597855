use Rattle.std.proofs.Common.{◌≡◌, ◌++◌, drop}
use Rattle.libraries.specs.Graph.{edges_from}
use Rattle.libraries.proofs.graph.edges_from.Given as goal

abbrev pub invariant-loop-from : goal.invariant-loop-from
invariant-loop-from l = l.edges.items ++ edges_from l.heads l.count l.from (drop l.from l.all) ≡ edges_from l.heads l.count 0 l.all
