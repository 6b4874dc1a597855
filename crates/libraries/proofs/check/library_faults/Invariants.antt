use Rattle.std.proofs.Common.{◌≡◌, ◌++◌, drop}
use Rattle.libraries.specs.Checks.{faults_of_units, library_faults}
use Rattle.libraries.proofs.check.library_faults.Given as goal

abbrev pub invariant-loop-place : goal.invariant-loop-place
invariant-loop-place l =
    l.found.items ++ faults_of_units l.files l.heads l.all l.library l.taken (drop l.place-index l.places) ≡ library_faults l.files l.heads l.all l.library
