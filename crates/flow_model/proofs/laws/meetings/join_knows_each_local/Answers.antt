use Rattle.std.proofs.Common.{refl}
use Rattle.flow_model.specs.Join.{join_facts}
use Rattle.flow_model.proofs.Pairs.{find-paired}
use Rattle.flow_model.proofs.laws.meetings.join_knows_each_local.Goals as goal

pub returns : goal.returns
returns c = λ a b var reach l m is_l is_m.
    rw (reach.second, reach.first) (find-paired join_facts (λ x y. refl) var a.locals b.locals reach.same_scope l m is_l is_m)
