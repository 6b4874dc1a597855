use Rattle.std.proofs.Common.{◌≡◌, ◌++◌, drop}
use Rattle.libraries.specs.Graph.{edges_in}
use Rattle.libraries.proofs.graph.add_aims.Given as goal

abbrev pub invariant-loop-aim : goal.invariant-loop-aim
invariant-loop-aim l = l.edges.items ++ edges_in l.heads l.count l.from (drop l.aim-index l.aims) ≡ l.initial.edges.items ++ edges_in l.heads l.count l.from l.aims
