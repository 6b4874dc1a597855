use Rattle.std.proofs.Common.{List, sym, subst}
use Rattle.library_graph.specs.declared.edges.Edge.{Edge}
use Rattle.library_graph.specs.Paths.{AreWithin}
use Rattle.libraries.proofs.Within.{edges_within}
use Rattle.libraries.proofs.graph.edges_of.Goals as goal

pub returns-clause-within : goal.returns-clause-within
returns-clause-within c =
    subst (λ (edges : List Edge). AreWithin edges c.args.count) (sym c.in_ok-edges.ensures) (edges_within c.args.heads.now c.args.count 0 c.args.all.now)
