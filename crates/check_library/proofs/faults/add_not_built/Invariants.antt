use Rattle.std.proofs.Common.{◌≡◌, ◌++◌, map, take}
use Rattle.check_library.specs.Diagnostics.{not_built}
use Rattle.check_library.proofs.faults.add_not_built.Given as goal

abbrev pub invariant-loop-span : goal.invariant-loop-span
invariant-loop-span l = l.faults.items ≡ l.initial.faults.items ++ map not_built (take l.span-index l.spans)
