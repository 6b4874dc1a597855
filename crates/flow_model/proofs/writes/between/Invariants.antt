use Rattle.std.proofs.Common.{◌≡◌, take}
use Rattle.flow_model.specs.Assign.{between_of}
use Rattle.flow_model.proofs.writes.between.Given as goal

abbrev pub invariant-loop-t : goal.invariant-loop-t
invariant-loop-t l = l.kept ≡ between_of l.rows.table l.written l.current (take l.t-index l.types)
