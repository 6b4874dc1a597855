use Rattle.std.proofs.Common.{[], ◌≡◌, replicate}
use Rattle.namespaces.proofs.links.no_links.Given as goal

abbrev pub invariant-loop : goal.invariant-loop
invariant-loop l = l.links.items ≡ replicate l.counter []
