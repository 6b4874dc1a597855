use Rattle.std.proofs.Common.{◌∙◌, sym, ap, length, arith}
use Rattle.std.proofs.lemmas.List.{drop_all}
use Rattle.flow_model.specs.Flow.{end_of}
use Rattle.flow_model.proofs.Scopes.{end_of-none, end_of-before}
use Rattle.flow_model.proofs.model.Flow.end.Goals as goal

-- at first none is out of scope
pub loop-i-init : goal.loop-i-init
loop-i-init c =
    c.in_ok-ended.ensures
    ∙ sym (ap (end_of c.args.self.now) (drop_all (length c.args.vars.now) c.args.vars.now (omega arith)) ∙ end_of-none c.args.self.now)

-- and then one more
pub loop-i-preserved : goal.loop-i-preserved
loop-i-preserved c =
    c.in_ok-remove.ensures
    ∙ (rw c.loop-i.invariant (end_of-before c.args.self.now c.args.vars.now c.loop-i.i _ (omega arith) (omega arith)))
