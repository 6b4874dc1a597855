use Rattle.std.proofs.Common.{◌≡◌, map, take}
use Rattle.elaborate.specs.Rows.{declared_code}
use Rattle.elaborate.proofs.declarations.all_declared.Given as goal

-- the parts are the code of the variables before the index
abbrev pub invariant-loop-variable : goal.invariant-loop-variable
invariant-loop-variable l = l.parts.items ≡ map (declared_code l.said) (take l.variable-index l.variables)
