use Rattle.std.proofs.Common.{◌≡◌, ◌++◌, drop}
use Rattle.dart_tree.specs.Tree.{trees_of}
use Rattle.built_forms.specs.Units.{unbuilt_in}
use Rattle.built_forms.proofs.units.unbuilt_in.Given as goal

-- those that were found, and those to come, are all
abbrev pub invariant-loop-item : goal.invariant-loop-item
invariant-loop-item l =
    l.unbuilt.items ++ unbuilt_in l.outside l.words l.one (trees_of (drop l.item-index l.items)) ≡ unbuilt_in l.outside l.words l.one (trees_of l.items)
