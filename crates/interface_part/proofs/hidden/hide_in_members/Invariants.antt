use Rattle.std.proofs.Common.{◌≡◌, ◌++◌, take}
use Rattle.std.specs.List.{flat_map}
use Rattle.interface_part.specs.Hidden.{hidden_in_member}
use Rattle.interface_part.proofs.hidden.hide_in_members.Given as goal

abbrev pub invariant-loop-member : goal.invariant-loop-member
invariant-loop-member l = l.parts.items ≡ l.initial.parts.items ++ flat_map (hidden_in_member l.in_mixin) (take l.member-index l.members)
