use Rattle.std.proofs.Common.{sub-one}
use Rattle.flow_model.proofs.LastType.{last_or-at}
use Rattle.flow_model.proofs.types.last_or.Goals as goal

-- the last item is the last type
pub returns-in-len1-up : goal.returns-in-len1-up
returns-in-len1-up c =
    last_or-at c.args.t.now c.args.types.now c.last-item.result c.in-len1-up.len_at_least (rw sub-one at c.last-item.is)
