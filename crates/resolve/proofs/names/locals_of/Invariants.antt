use Rattle.std.proofs.Common.{◌≡◌, ◌++◌, drop}
use Rattle.judgement.specs.DeclaredNames.{locals_of}
use Rattle.resolve.proofs.names.locals_of.Given as goal

-- the locals that were seen and those to come are all
abbrev pub invariant-loop-name : goal.invariant-loop-name
invariant-loop-name l = l.locals.items ++ locals_of (drop l.name-index l.names) ≡ locals_of l.names
