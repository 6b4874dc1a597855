use Rattle.std.proofs.Common.{◌≡◌, take}
use Rattle.load_files.proofs.packages.Packages.copy.Given as goal

abbrev pub invariant-loop-package : goal.invariant-loop-package
invariant-loop-package l = l.packages.items ≡ take l.package-index l.package-items
