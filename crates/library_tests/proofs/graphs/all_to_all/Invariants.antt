use Rattle.library_graph.specs.Paths.{AreWithin}
use Rattle.library_tests.proofs.graphs.all_to_all.Given as goal

abbrev pub invariant-loop-from : goal.invariant-loop-from
invariant-loop-from l = AreWithin l.edges.items l.count

abbrev pub invariant-loop-to : goal.invariant-loop-to
invariant-loop-to l = AreWithin l.edges.items l.count
