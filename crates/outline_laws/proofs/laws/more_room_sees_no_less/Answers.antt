use Rattle.outline_laws.proofs.Descents.{more_arguments_seen}
use Rattle.outline_laws.proofs.laws.more_room_sees_no_less.Goals as goal

pub returns : goal.returns
returns c = more_arguments_seen
