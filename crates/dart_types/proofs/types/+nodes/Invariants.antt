use Rattle.std.proofs.Common.{◌≡◌, drop, ◌+◌}
use Rattle.dart_types.specs.Ty.{types_of}
use Rattle.dart_types.specs.Named.{named_of}
use Rattle.dart_types.specs.Sizes.{sizes_of, sizes_of_named, held}
use Rattle.dart_types.proofs.types.+nodes.Given as goal

-- what was counted, and the types that are left, are all
abbrev pub invariant-TypeList::nodes-loop-item : goal.invariant-TypeList::nodes-loop-item
invariant-TypeList::nodes-loop-item l =
    (held (l.total + sizes_of (types_of (drop l.item-index l.item-items))) ≡ held (sizes_of (types_of l.item-items))) × (held l.total ≡ l.total)

abbrev pub invariant-NamedTypes::nodes-loop-item : goal.invariant-NamedTypes::nodes-loop-item
invariant-NamedTypes::nodes-loop-item l =
    (held (l.total + sizes_of_named (named_of (drop l.item-index l.item-items))) ≡ held (sizes_of_named (named_of l.item-items))) × (held l.total ≡ l.total)
