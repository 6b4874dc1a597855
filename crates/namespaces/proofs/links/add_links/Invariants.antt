use Rattle.namespaces.specs.Links.{AreLinks}
use Rattle.namespaces.proofs.links.add_links.Given as goal

abbrev pub invariant-loop-export : goal.invariant-loop-export
invariant-loop-export l = AreLinks l.libraries l.from l.export l.links.items
