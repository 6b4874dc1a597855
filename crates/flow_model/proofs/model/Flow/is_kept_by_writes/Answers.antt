use Rattle.std.proofs.Common.{◌≡◌, true, add-one, arith}
use Rattle.flow_model.proofs.Forgets.{conservative_of-none}
use Rattle.flow_model.proofs.SharedSteps.{kept_by_one_more}
use Rattle.flow_model.proofs.model.Flow.is_kept_by_writes.Goals as goal

-- code that writes nothing
pub loop-var-init : goal.loop-var-init
loop-var-init c = conservative_of-none c.args.self.now

-- one more local
pub loop-var-preserved : goal.loop-var-preserved
loop-var-preserved c =
    let holds : c.is_kept_by_write.result ≡ true = grind (arith, c.if-not-is_kept_by_write.false) in
    rw add-one
    (kept_by_one_more c.args.self.now c.args.written.now c.loop-var.var-index _ c.loop-var-test.true (c.is_kept_by_write.ensures holds) c.loop-var.invariant)
