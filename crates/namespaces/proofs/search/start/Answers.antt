use Rattle.std.proofs.Common.{rules}
use Rattle.namespaces.proofs.Searching.{started}
use Rattle.namespaces.proofs.search.start.Goals as goal

pub returns : goal.returns
returns c = started c.args.idle.now c.args.to _ (search rules) (search rules) (search rules)
