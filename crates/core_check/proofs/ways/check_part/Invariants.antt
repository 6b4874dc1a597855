use Rattle.std.proofs.Common.{◌≡◌, drop}
use Rattle.std.specs.Prelude.{flat_map}
use Rattle.core_check.specs.Faults.{way_faults}
use Rattle.core_check.specs.Checks.{part_of}
use Rattle.core_check.proofs.ways.check_part.Given as goal

abbrev pub invariant-loop-way : goal.invariant-loop-way
invariant-loop-way l =
    flat_map (way_faults l.context.program.now l.context.function.now l.facts (part_of l.part)) l.ways
    ≡ flat_map (way_faults l.context.program.now l.context.function.now l.facts (part_of l.part)) (drop l.way-index l.ways)
