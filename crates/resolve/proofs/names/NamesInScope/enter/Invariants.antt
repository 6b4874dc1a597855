use Rattle.std.proofs.Common.{◌≡◌, drop}
use Rattle.judgement.specs.DeclaredNames.{names_within}
use Rattle.resolve.specs.Shadows.{undone}
use Rattle.resolve.proofs.names.NamesInScope.enter.Given as goal

-- the names are those within the last of them, which were seen, and what these hide can be put back
abbrev pub invariant-loop-i : goal.invariant-loop-i
invariant-loop-i l = (l.self ≡ names_within l.initial.self (drop l.i l.declared)) × (undone l.self l.shadowed.items ≡ l.initial.self)
