use Rattle.std.proofs.Common.{◌≡◌, vec_len}
use Rattle.check_library.specs.Order.{sorted_faults}
use Rattle.check_library.proofs.Reports.{put_all}
use Rattle.check_library.proofs.order.sorted.Given as goal

abbrev pub invariant-loop-fault : goal.invariant-loop-fault
invariant-loop-fault l = put_all l.faults.items l.reported.keys ≡ sorted_faults l.initial.faults.items

abbrev pub decreases-loop-fault : goal.decreases-loop-fault
decreases-loop-fault l = vec_len l.faults
