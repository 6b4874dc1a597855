use Rattle.resolve.proofs.Shadowing.{undone-declared}
use Rattle.resolve.proofs.names.NamesInScope.declare.Goals as goal

pub returns-clause-undone : goal.returns-clause-undone
returns-clause-undone c =
    rw (c.in_ok-push.ensures.items, c.in_ok-before.ensures.names, c.in_ok-before.ensures.before)
    (undone-declared c.args.self.now c.args.shadowed.now.items c.args.name.word c.declared_local.result)
