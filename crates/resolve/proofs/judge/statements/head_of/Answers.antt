use Rattle.std.proofs.Common.{List, [], ap, ◌∙◌}
use Rattle.flow_model.specs.declared.locals.LocalId.{LocalId}
use Rattle.judgement.specs.StatementRows.{loop_head}
use Rattle.resolve.proofs.judge.statements.head_of.Goals as goal

pub returns-clause-head : goal.returns-clause-head
returns-clause-head c =
    c.in_ok-head.ensures ∙ ap (λ (written : List LocalId). loop_head c.args.before.now.value written []) (c.deref.ensures.value ∙ c.in_ok-written.ensures.locals)
