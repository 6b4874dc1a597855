use Rattle.std.proofs.Common.{◌≡◌, drop, ◌+◌}
use Rattle.dart_types.specs.Ty.{types_of}
use Rattle.dart_types.specs.Named.{named_of}
use Rattle.dart_types.specs.Sizes.{sizes_of, sizes_of_named, held}
use Rattle.dart_types.specs.Replacements.{replaced_all, replaced_named}
use Rattle.dart_types.proofs.types.+normal_nodes.Given as goal

-- what was counted, and the normal forms of the types that are left, are all
abbrev pub invariant-TypeList::nodes_with-loop-item : goal.invariant-TypeList::nodes_with-loop-item
invariant-TypeList::nodes_with-loop-item l =
    (held (l.total + sizes_of (replaced_all l.replacements (types_of (drop l.item-index l.item-items)))) ≡ held (sizes_of (replaced_all l.replacements (types_of l.item-items)))) × (held l.total ≡ l.total)

abbrev pub invariant-NamedTypes::nodes_with-loop-item : goal.invariant-NamedTypes::nodes_with-loop-item
invariant-NamedTypes::nodes_with-loop-item l =
    (held (l.total + sizes_of_named (replaced_named l.replacements (named_of (drop l.item-index l.item-items)))) ≡ held (sizes_of_named (replaced_named l.replacements (named_of l.item-items)))) × (held l.total ≡ l.total)
