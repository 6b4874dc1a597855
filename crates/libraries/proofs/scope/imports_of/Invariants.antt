use Rattle.std.proofs.Common.{◌≡◌, ◌++◌, drop, map}
use Rattle.libraries.specs.Scopes.{imports_in, seen_of}
use Rattle.libraries.proofs.scope.imports_of.Given as goal

abbrev pub invariant-loop-directive : goal.invariant-loop-directive
invariant-loop-directive l =
    map seen_of l.imports.items ++ imports_in l.heads l.spaces (drop l.directive-index l.directives) l.rest
    ≡ imports_in l.heads l.spaces l.directives l.aims
