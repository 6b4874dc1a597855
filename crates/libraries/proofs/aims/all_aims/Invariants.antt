use Rattle.std.proofs.Common.{◌≡◌, map, take}
use Rattle.libraries.specs.Aims.{aims_in}
use Rattle.libraries.proofs.aims.all_aims.Given as goal

abbrev pub invariant-loop-file : goal.invariant-loop-file
invariant-loop-file l = l.all.items ≡ map (aims_in l.packages l.paths) (take l.file-index l.files)
