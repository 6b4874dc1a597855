use Rattle.std.proofs.Common.{◌≡◌, ◌++◌, length}
use Rattle.dart_scan.specs.Values.{unescaped}
use Rattle.dart_scan.proofs.escape.unescaped.Given as goal

abbrev pub invariant-loop-unit : goal.invariant-loop-unit
invariant-loop-unit l = unescaped 0 l.units ≡ l.value.items ++ unescaped 0 l.rest

abbrev pub decreases-loop-unit : goal.decreases-loop-unit
decreases-loop-unit l = length l.rest
