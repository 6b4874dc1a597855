use Rattle.std.proofs.Common.{◌≡◌, drop}
use Rattle.libraries.specs.Duplicates.{with_prefixes}
use Rattle.libraries.proofs.duplicates.take_prefixes.Given as goal

abbrev pub invariant-loop-directive : goal.invariant-loop-directive
invariant-loop-directive l = with_prefixes l.taken (drop l.directive-index l.directives) ≡ with_prefixes l.initial.taken l.directives
