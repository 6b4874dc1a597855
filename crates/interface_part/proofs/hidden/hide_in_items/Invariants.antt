use Rattle.std.proofs.Common.{◌≡◌, ◌++◌, take}
use Rattle.std.specs.List.{flat_map}
use Rattle.interface_part.specs.Hidden.{hidden_in_item}
use Rattle.interface_part.proofs.hidden.hide_in_items.Given as goal

abbrev pub invariant-loop-item : goal.invariant-loop-item
invariant-loop-item l = l.parts.items ≡ l.initial.parts.items ++ flat_map hidden_in_item (take l.item-index l.items)
