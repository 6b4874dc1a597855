use Rattle.std.proofs.Common.{◌≡◌, [], arith}
use Rattle.std.proofs.lemmas.Grind.{common_steps}
use Rattle.flow_model.proofs.Meetings.{tested_of_none}
use Rattle.flow_model.proofs.join.tests_join_to_second.Goals as goal

-- the first path tested the local for nothing
pub returns-then-is_empty : goal.returns-then-is_empty
returns-then-is_empty c = λ _.
    let none : c.args.a.now.tested ≡ [] = grind (arith, common_steps) in
    tested_of_none c.args.a.now c.args.b.now none
