use Rattle.std.proofs.Common.{◌≡◌, take, map}
use Rattle.type_infer.specs.Promotions.{unpromoted}
use Rattle.type_infer.proofs.ReadTypes.{read_param}
use Rattle.type_infer.proofs.reading.+reading.Given as goal

abbrev pub invariant-read_list-loop-item : goal.invariant-read_list-loop-item
invariant-read_list-loop-item l = l.read ≡ map unpromoted (take l.item-index l.item-items)

abbrev pub invariant-read_named-loop-item : goal.invariant-read_named-loop-item
invariant-read_named-loop-item l = l.read ≡ map read_param (take l.item-index l.item-items)
