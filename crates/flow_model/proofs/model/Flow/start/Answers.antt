use Rattle.std.proofs.Common.{ap, ◌∙◌}
use Rattle.std.specs.Prelude.{is_some}
use Rattle.flow_model.specs.Flow.{FlowModel, facts_of}
use Rattle.flow_model.proofs.Scopes.{absent_from_start}
use Rattle.flow_model.proofs.model.Flow.start.Goals as goal

-- each local differs from those before it
pub declare-requires : goal.declare-requires
declare-requires c =
    ap (λ (m : FlowModel). is_some (facts_of m c.var-item.result.var)) c.loop-var.invariant
    ∙ ap is_some (absent_from_start c.args.vars.now c.loop-var.var-index c.var-item.result c.requires c.loop-var-test.true c.var-item.is)
