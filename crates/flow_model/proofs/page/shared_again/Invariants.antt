use Rattle.std.proofs.Common.{◌≡◌, take}
use Rattle.flow_model.proofs.page.shared_again.Given as goal

abbrev pub invariant-loop-local : goal.invariant-loop-local
invariant-loop-local l = l.copied.items ≡ take l.local-index l.locals
