use Rattle.std.proofs.Common.{◌≡◌, sym, subst}
use Rattle.std.proofs.lemmas.Result.{IfOk-weaker}
use Rattle.flow_model.specs.Chains.{HasDescendingChains}
use Rattle.flow_model.specs.Flow.{FlowModel}
use Rattle.flow_model.specs.Join.{join_of}
use Rattle.flow_model.proofs.model.Flow.join.Goals as goal

-- by the law of where paths meet
pub returns-clause-descends : goal.returns-clause-descends
returns-clause-descends c =
    let table = c.args.rows.now.table in
    let met = join_of c.args.a.now c.args.b.now in
    λ nothing a b.
    IfOk-weaker c.join_paths.result (λ (m : FlowModel). m ≡ met) (HasDescendingChains table)
    (λ m is. subst (HasDescendingChains table) (sym is) (c.chains_descend.ensures.join nothing c.args.a.now c.args.b.now a b))
    c.join_paths.ensures
