use Rattle.std.proofs.Common.{take}
use Rattle.namespaces.specs.Links.{Finds}
use Rattle.namespaces.proofs.search.find_from.Given as goal

-- the links so far
abbrev pub invariant-loop-link : goal.invariant-loop-link
invariant-loop-link l = Finds l.libraries l.name (take l.link-index l.links) l.initial.search l.search
