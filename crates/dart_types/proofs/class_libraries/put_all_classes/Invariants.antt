use Rattle.std.proofs.Common.{take}
use Rattle.dart_types.specs.Groups.{PutsAll}
use Rattle.dart_types.specs.declared.class_libraries.LibraryClasses.{LibraryClasses}
use Rattle.dart_types.proofs.class_libraries.put_all_classes.Given as goal

-- the first of the others were put in
abbrev pub invariant-loop-other : goal.invariant-loop-other
invariant-loop-other l = PutsAll (λ (g : LibraryClasses). g.lib.0) l.initial.libraries.items (take l.other-index l.others) l.libraries.items
