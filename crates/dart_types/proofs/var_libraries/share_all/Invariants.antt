use Rattle.std.proofs.Common.{◌≡◌, ◌++◌}
use Rattle.dart_types.proofs.var_libraries.share_all.Given as goal

abbrev pub invariant-loop-library : goal.invariant-loop-library
invariant-loop-library l = l.shared.items ++ l.library-iterator.rest.items ≡ l.fn.libraries.items
