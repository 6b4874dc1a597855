use Rattle.std.proofs.Common.{◌∙◌, sym, ap, [], add-one, arith}
use Rattle.std.proofs.lemmas.List.{drop_all}
use Rattle.flow_model.specs.Steps.{conservative_of}
use Rattle.flow_model.proofs.Forgets.{conservative_of-none, write_one_more, capture_one_more}
use Rattle.flow_model.proofs.model.Flow.conservative_join.Goals as goal

-- one more written local
pub loop-var-preserved : goal.loop-var-preserved
loop-var-preserved c =
    rw (add-one, c.in_ok-forget_written.ensures)
    (write_one_more c.loop-var.forgotten c.args.written.now c.args.captured.now c.loop-var.var-index _ c.loop-var-test.true ∙ c.loop-var.invariant)

-- one more captured local
pub loop-var-2-preserved : goal.loop-var-2-preserved
loop-var-2-preserved c =
    rw (add-one, c.in_ok-forget_captured.ensures)
    (capture_one_more c.loop-var-2.forgotten c.args.captured.now c.loop-var-2.var-index _ c.loop-var-2-test.true ∙ c.loop-var-2.invariant)

-- nothing is left to forget
pub returns-clause-ok : goal.returns-clause-ok
returns-clause-ok c =
    let none = drop_all c.loop-var-2.var-index c.args.captured.now (omega arith) in
    sym (conservative_of-none c.loop-var-2.forgotten)
    ∙ (ap (conservative_of c.loop-var-2.forgotten []) (sym none) ∙ c.loop-var-2.invariant)
