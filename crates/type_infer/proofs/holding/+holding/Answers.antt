use Rattle.std.proofs.Common.{◌≤◌, arith}
use Rattle.dart_types.specs.Ty.{types_of}
use Rattle.dart_types.specs.Named.{named_of}
use Rattle.dart_types.specs.Sizes.{size_of, sizes_of, sizes_of_named}
use Rattle.type_infer.proofs.Parts.{size_at, named_size_at}
use Rattle.type_infer.proofs.holding.+holding.Goals as goal

pub hold_param-holds_param-requires : goal.hold_param-holds_param-requires
hold_param-holds_param-requires t c =
    let ts = c.args.types.now in
    let s = c.item-item.result in
    let le : size_of s ≤ sizes_of (types_of ts) = rw c.item-item.is (size_at ts c.loop-item.item-index s c.loop-item-test.true) in
    (omega (arith, le, c.decreases), tt)

pub hold_param_named-holds_param-requires : goal.hold_param_named-holds_param-requires
hold_param_named-holds_param-requires t c =
    let ns = c.args.named.now in
    let n = c.item-item.result in
    let le : size_of n.ty ≤ sizes_of_named (named_of ns) = rw c.item-item.is (named_size_at ns c.loop-item.item-index n c.loop-item-test.true) in
    (omega (arith, le, c.decreases), tt)
