use Rattle.std.proofs.Common.{◌≡◌, [], fold, take}
use Rattle.check_files.specs.Sources.{with_start}
use Rattle.check_files.proofs.sources.starts_of.Given as goal

abbrev pub invariant-loop-directive : goal.invariant-loop-directive
invariant-loop-directive l = l.starts ≡ fold with_start [] (take l.directive-index l.directives)
