use Rattle.std.proofs.Common.{◌≡◌, drop}
use Rattle.dart_tree.specs.Tree.{trees_of}
use Rattle.built_forms.specs.DeclaredNames.{brings_names}
use Rattle.built_forms.proofs.declared.brings_names.Given as goal

abbrev pub invariant-loop-item : goal.invariant-loop-item
invariant-loop-item l = brings_names (trees_of l.items) ≡ brings_names (trees_of (drop l.item-index l.items))
