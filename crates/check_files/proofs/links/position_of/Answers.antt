use Rattle.std.proofs.Common.{◌∙◌}
use Rattle.check_files.proofs.Places.{place_among}
use Rattle.check_files.proofs.links.position_of.Goals as goal

pub returns : goal.returns
returns c = c.position_in.ensures ∙ place_among c.args.path.now c.args.files.now
