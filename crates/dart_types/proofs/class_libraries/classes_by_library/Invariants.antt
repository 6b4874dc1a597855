use Rattle.std.proofs.Common.{◌≡◌, ◌++◌}
use Rattle.dart_types.specs.Libraries.{entries_in, AreClassesApart}
use Rattle.dart_types.proofs.class_libraries.classes_by_library.Given as goal

-- the libraries have the first classes, and what is left follows
abbrev pub invariant-loop-entry : goal.invariant-loop-entry
invariant-loop-entry l =
    (entries_in l.libraries.items ++ l.entry-iterator.rest.items ≡ l.fn.entries.items) × AreClassesApart l.libraries.items
