use Rattle.std.proofs.Common.{◌≡◌, length}
use Rattle.fault_io.specs.Stored.{are_files}
use Rattle.fault_io.proofs.stored.are_files.Given as goal

abbrev pub invariant-loop-rest : goal.invariant-loop-rest
invariant-loop-rest l = are_files l.files ≡ are_files l.rest

abbrev pub decreases-loop-rest : goal.decreases-loop-rest
decreases-loop-rest l = length l.rest
