use Rattle.std.proofs.Common.{refl}
use Rattle.flow_model.specs.Restrict.{restrict_facts}
use Rattle.flow_model.proofs.Pairs.{find-paired}
use Rattle.flow_model.proofs.laws.meetings.restrict_knows_each_local.Goals as goal

pub returns : goal.returns
returns c = λ a b written captured var same l m is_l is_m.
    find-paired (restrict_facts c.args._rows.now.table written captured) (λ x y. refl) var a.locals b.locals same l m is_l is_m
