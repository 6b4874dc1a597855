use Rattle.std.proofs.Common.{◌≡◌, take}
use Rattle.dart_types.proofs.class_libraries.copy_classes.Given as goal

abbrev pub invariant-loop-library : goal.invariant-loop-library
invariant-loop-library l = l.copies.items ≡ take l.library-index l.libraries
