use Rattle.namespaces.specs.Links.{AreLinks}
use Rattle.namespaces.proofs.links.links.Given as goal

abbrev pub invariant-loop-from : goal.invariant-loop-from
invariant-loop-from l = AreLinks l.libraries l.from 0 l.links.items
