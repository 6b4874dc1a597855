use Rattle.std.proofs.Common.{◌≡◌, drop}
use Rattle.dart_tree.specs.Tree.{trees_of}
use Rattle.built_forms.specs.CoreImports.{narrows_core}
use Rattle.built_forms.proofs.core_imports.narrows_core.Given as goal

-- none that was seen is such an import
abbrev pub invariant-loop-item : goal.invariant-loop-item
invariant-loop-item l = narrows_core l.words (trees_of l.items) ≡ narrows_core l.words (trees_of (drop l.item-index l.items))
