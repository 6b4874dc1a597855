use Rattle.std.proofs.Common.{◌≡◌, drop}
use Rattle.std.specs.List.{list_any}
use Rattle.check_library.specs.Diagnostics.{is_undefined_code}
use Rattle.check_library.proofs.library.has_undefined_name.Given as goal

abbrev pub invariant-loop-fault : goal.invariant-loop-fault
invariant-loop-fault l = list_any (λ fault. is_undefined_code fault.code) l.faults ≡ list_any (λ fault. is_undefined_code fault.code) (drop l.fault-index l.faults)
