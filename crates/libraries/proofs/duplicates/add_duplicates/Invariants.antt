use Rattle.std.proofs.Common.{◌≡◌, ◌++◌, drop}
use Rattle.libraries.specs.Duplicates.{duplicates_in, taken_after}
use Rattle.libraries.proofs.duplicates.add_duplicates.Given as goal

abbrev pub invariant-loop-one : goal.invariant-loop-one
invariant-loop-one l = record {
  faults : l.faults.items ++ duplicates_in l.taken (drop l.one-index l.declared) ≡ l.initial.faults.items ++ duplicates_in l.initial.taken l.declared;
  taken : taken_after l.taken (drop l.one-index l.declared) ≡ taken_after l.initial.taken l.declared;
}
