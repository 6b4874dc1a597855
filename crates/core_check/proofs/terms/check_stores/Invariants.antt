use Rattle.std.proofs.Common.{◌≡◌, drop}
use Rattle.std.specs.Prelude.{flat_map}
use Rattle.core_check.specs.Faults.{stored_faults}
use Rattle.core_check.proofs.terms.check_stores.Given as goal

abbrev pub invariant-loop-stored : goal.invariant-loop-stored
invariant-loop-stored l = flat_map (stored_faults l.context.program.now l.context.function.now l.facts) l.stores ≡ flat_map (stored_faults l.context.program.now l.context.function.now l.facts) (drop l.stored-index l.stores)
