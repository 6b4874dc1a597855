use Rattle.std.proofs.Common.{◌≡◌, [], arith}
use Rattle.std.proofs.lemmas.Grind.{common_steps}
use Rattle.flow_model.proofs.Meetings.{chain_of_none}
use Rattle.flow_model.proofs.join.chains_join_to_second.Goals as goal

-- the second path promotes the local to nothing
pub returns-then-is_empty : goal.returns-then-is_empty
returns-then-is_empty c = λ _.
    let none : c.args.b.now.chain ≡ [] = grind (arith, common_steps) in
    chain_of_none c.args.a.now c.args.b.now none
