use Rattle.std.proofs.Common.{◌≡◌, drop}
use Rattle.dart_tree.specs.Tree.{trees_of}
use Rattle.built_forms.specs.Units.{function_in}
use Rattle.built_forms.proofs.units.function_in.Given as goal

-- none that was seen is built
abbrev pub invariant-loop-item : goal.invariant-loop-item
invariant-loop-item l = function_in l.outside l.words l.one (trees_of (drop l.item-index l.items)) ≡ function_in l.outside l.words l.one (trees_of l.items)
