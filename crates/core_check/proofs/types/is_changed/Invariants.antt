use Rattle.std.proofs.Common.{◌≡◌, take, false}
use Rattle.core_check.specs.Types.{is_changed}
use Rattle.core_check.proofs.types.is_changed.Given as goal

abbrev pub invariant-loop-change : goal.invariant-loop-change
invariant-loop-change l = is_changed (take l.change-index l.changes) l.slot ≡ false
