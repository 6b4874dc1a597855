use Rattle.std.proofs.Common.{◌≡◌, take}
use Rattle.dart_types.proofs.var_libraries.copy_vars.Given as goal

abbrev pub invariant-loop-library : goal.invariant-loop-library
invariant-loop-library l = l.copies.items ≡ take l.library-index l.libraries
