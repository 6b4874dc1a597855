use Rattle.std.proofs.Common.{◌≡◌, ◌++◌, take}
use Rattle.std.specs.List.{flat_map}
use Rattle.interface_part.specs.Hidden.{hidden_in_variable}
use Rattle.interface_part.proofs.hidden.hide_initializers.Given as goal

abbrev pub invariant-loop-variable : goal.invariant-loop-variable
invariant-loop-variable l = l.parts.items ≡ l.initial.parts.items ++ flat_map (hidden_in_variable l.in_mixin) (take l.variable-index l.variables)
