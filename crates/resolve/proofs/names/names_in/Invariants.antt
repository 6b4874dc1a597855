use Rattle.std.proofs.Common.{◌≡◌, ◌++◌, drop}
use Rattle.dart_tree.specs.Tree.{trees_of}
use Rattle.judgement.specs.DeclaredNames.{names_in}
use Rattle.resolve.proofs.names.names_in.Given as goal

-- the names that were seen and those to come are all
abbrev pub invariant-loop-statement : goal.invariant-loop-statement
invariant-loop-statement l = l.names.items ++ names_in (trees_of (drop l.statement-index l.statements)) ≡ names_in (trees_of l.statements)
