use Rattle.std.proofs.Common.{◌≡◌, map, take}
use Rattle.namespaces.specs.Links.{is_idle}
use Rattle.namespaces.proofs.search.idle.Given as goal

abbrev pub invariant-loop-library : goal.invariant-loop-library
invariant-loop-library l = l.marks.items ≡ map is_idle (take l.library-index l.libraries)
