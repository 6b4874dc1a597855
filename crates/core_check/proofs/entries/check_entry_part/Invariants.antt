use Rattle.std.proofs.Common.{◌≡◌, drop}
use Rattle.std.specs.Prelude.{flat_map}
use Rattle.core_check.specs.Faults.{entry_fact_faults}
use Rattle.core_check.specs.Checks.{part_of}
use Rattle.core_check.proofs.entries.check_entry_part.Given as goal

abbrev pub invariant-loop-place : goal.invariant-loop-place
invariant-loop-place l =
    flat_map (entry_fact_faults l.context.function.now (part_of l.part)) l.facts.listed
    ≡ flat_map (entry_fact_faults l.context.function.now (part_of l.part)) (drop l.place l.facts.listed)
