use Rattle.std.proofs.Common.{◌≡◌, drop}
use Rattle.std.specs.Prelude.{flat_map}
use Rattle.core_check.specs.Faults.{read_faults}
use Rattle.core_check.proofs.terms.check_reads.Given as goal

abbrev pub invariant-loop-read : goal.invariant-loop-read
invariant-loop-read l = flat_map (read_faults l.facts) l.reads ≡ flat_map (read_faults l.facts) (drop l.read-index l.reads)
