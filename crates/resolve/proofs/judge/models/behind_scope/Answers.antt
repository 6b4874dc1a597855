use Rattle.std.proofs.Common.{rules, ◌≡◌, [], arith}
use Rattle.std.proofs.lemmas.Grind.{common_steps}
use Rattle.judgement.specs.DeclaredNames.{locals_of}
use Rattle.resolve.proofs.Ends.{end_of-none}
use Rattle.resolve.proofs.judge.models.behind_scope.Goals as goal

pub returns-then-is_empty : goal.returns-then-is_empty
returns-then-is_empty c =
    let none : locals_of c.args.declared.now ≡ [] = grind (arith, common_steps) in
    rw (none, end_of-none c.args.inside.now.value) (search rules)
