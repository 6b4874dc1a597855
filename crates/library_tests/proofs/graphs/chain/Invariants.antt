use Rattle.library_graph.specs.Paths.{AreWithin}
use Rattle.library_tests.proofs.graphs.chain.Given as goal

abbrev pub invariant-loop-to : goal.invariant-loop-to
invariant-loop-to l = AreWithin l.edges.items l.count
