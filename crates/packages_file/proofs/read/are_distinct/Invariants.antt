use Rattle.std.proofs.Common.{drop}
use Rattle.packages_file.proofs.Names.{AreNames}
use Rattle.packages_file.proofs.read.are_distinct.Given as goal

-- the names are those of the last packages, and no two of these have the same name
abbrev pub invariant-loop-index : goal.invariant-loop-index
invariant-loop-index l = AreNames l.names (drop l.index l.packages)
