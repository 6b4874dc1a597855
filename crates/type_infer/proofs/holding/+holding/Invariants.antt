use Rattle.std.proofs.Common.{◌≡◌, ◌+◌, ◌*◌, drop}
use Rattle.dart_types.specs.Ty.{types_of}
use Rattle.dart_types.specs.Named.{named_of}
use Rattle.dart_types.specs.Sizes.{size_of, sizes_of, sizes_of_named}
use Rattle.type_infer.specs.Holding.{hold_param, hold_param_named}
use Rattle.type_infer.proofs.holding.+holding.Given as goal

abbrev pub decreases-holds_param : goal.decreases-holds_param
decreases-holds_param l = 2 * size_of l.t.now

abbrev pub decreases-hold_param : goal.decreases-hold_param
decreases-hold_param l = 2 * sizes_of (types_of l.types.now) + 1

abbrev pub decreases-hold_param_named : goal.decreases-hold_param_named
decreases-hold_param_named l = 2 * sizes_of_named (named_of l.named.now) + 1

-- what is left decides
abbrev pub invariant-hold_param-loop-item : goal.invariant-hold_param-loop-item
invariant-hold_param-loop-item l = hold_param l.params (types_of (drop l.item-index l.types)) ≡ hold_param l.params (types_of l.types)

abbrev pub invariant-hold_param_named-loop-item : goal.invariant-hold_param_named-loop-item
invariant-hold_param_named-loop-item l = hold_param_named l.params (named_of (drop l.item-index l.named)) ≡ hold_param_named l.params (named_of l.named)
