use Rattle.outline_laws.proofs.Descents.{arguments_seen, arguments_behind, no_arguments_behind}
use Rattle.outline_laws.proofs.laws.readable_arguments_are_seen.Goals as goal

pub returns : goal.returns
returns c = record { in_any_room = arguments_seen; seen = arguments_behind; unseen = no_arguments_behind }
