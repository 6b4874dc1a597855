use Rattle.std.proofs.Common.{drop}
use Rattle.elaborate.specs.Lookups.{Indexes}
use Rattle.elaborate.proofs.said.index.Given as goal

-- what is said by those from the index on is found
abbrev pub invariant-loop-i : goal.invariant-loop-i
invariant-loop-i l = Indexes l.first l.count l.typed (drop l.i l.typed) l.entries.items
