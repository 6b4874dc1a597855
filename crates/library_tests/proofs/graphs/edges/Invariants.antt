use Rattle.library_graph.specs.Paths.{AreWithin}
use Rattle.library_tests.proofs.graphs.edges.Given as goal

abbrev pub invariant-loop-from : goal.invariant-loop-from
invariant-loop-from l = AreWithin l.edges.items l.count
