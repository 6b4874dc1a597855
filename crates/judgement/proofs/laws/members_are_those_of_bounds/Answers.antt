use Rattle.judgement.proofs.Members.{member_by_step}
use Rattle.judgement.proofs.laws.members_are_those_of_bounds.Goals as goal

pub returns : goal.returns
returns c = member_by_step c.args._rows.now.table c.row_laws.ensures
