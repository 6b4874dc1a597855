use Rattle.std.proofs.Common.{◌≡◌, ◌+◌, ◌*◌, drop}
use Rattle.dart_types.specs.Ty.{types_of}
use Rattle.dart_types.specs.Named.{named_of}
use Rattle.dart_types.specs.Sizes.{size_of, sizes_of, sizes_of_named}
use Rattle.type_infer.specs.Open.{are_open, are_open_named}
use Rattle.type_infer.proofs.openness.+openness.Given as goal

abbrev pub decreases-is_open : goal.decreases-is_open
decreases-is_open l = 2 * size_of l.t.now

abbrev pub decreases-are_open : goal.decreases-are_open
decreases-are_open l = 2 * sizes_of (types_of l.types.now) + 1

abbrev pub decreases-are_open_named : goal.decreases-are_open_named
decreases-are_open_named l = 2 * sizes_of_named (named_of l.named.now) + 1

-- what is left decides
abbrev pub invariant-are_open-loop-item : goal.invariant-are_open-loop-item
invariant-are_open-loop-item l = are_open (types_of (drop l.item-index l.types)) ≡ are_open (types_of l.types)

abbrev pub invariant-are_open_named-loop-item : goal.invariant-are_open_named-loop-item
invariant-are_open_named-loop-item l = are_open_named (named_of (drop l.item-index l.named)) ≡ are_open_named (named_of l.named)
