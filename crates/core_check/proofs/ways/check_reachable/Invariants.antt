use Rattle.std.proofs.Common.{◌≡◌, drop}
use Rattle.std.specs.Prelude.{flat_map}
use Rattle.core_check.specs.Faults.{reach_faults}
use Rattle.core_check.proofs.ways.check_reachable.Given as goal

abbrev pub invariant-loop-way : goal.invariant-loop-way
invariant-loop-way l = flat_map (reach_faults l.context.program.now) l.ways ≡ flat_map (reach_faults l.context.program.now) (drop l.way-index l.ways)
