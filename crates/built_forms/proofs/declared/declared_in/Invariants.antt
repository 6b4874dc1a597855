use Rattle.std.proofs.Common.{◌≡◌, ◌++◌, drop}
use Rattle.dart_tree.specs.Tree.{trees_of}
use Rattle.built_forms.specs.DeclaredNames.{declared_in}
use Rattle.built_forms.proofs.declared.declared_in.Given as goal

abbrev pub invariant-loop-item : goal.invariant-loop-item
invariant-loop-item l = l.words.items ++ declared_in (trees_of (drop l.item-index l.items)) ≡ declared_in (trees_of l.items)
