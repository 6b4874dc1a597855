use Rattle.std.proofs.Common.{◌≡◌, drop}
use Rattle.std.specs.Prelude.{flat_map}
use Rattle.core_check.specs.Faults.{asked_faults}
use Rattle.core_check.proofs.terms.check_asks.Given as goal

abbrev pub invariant-loop-asked : goal.invariant-loop-asked
invariant-loop-asked l = flat_map (asked_faults l.context.program.now l.context.function.now l.facts) l.asks ≡ flat_map (asked_faults l.context.program.now l.context.function.now l.facts) (drop l.asked-index l.asks)
