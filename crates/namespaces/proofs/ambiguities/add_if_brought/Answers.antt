use Rattle.std.proofs.Common.{rules}
use Rattle.namespaces.specs.Ambiguities.{is_brought}
use Rattle.namespaces.proofs.Clashing.{brought, not_brought}
use Rattle.namespaces.proofs.ambiguities.add_if_brought.Goals as goal

pub returns-then-not-is_brought : goal.returns-then-not-is_brought
returns-then-not-is_brought c = not_brought (is_brought c.args.library.now c.args.combinators.now c.args.pair.now) c.args.names.now.names c.args.pair.now (search rules)

pub returns : goal.returns
returns c = brought (is_brought c.args.library.now c.args.combinators.now c.args.pair.now) c.args.names.now.names c.add.new.self.names c.args.pair.now (search rules) c.in_ok-add.ensures
