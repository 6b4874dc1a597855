use Rattle.dart_uri.proofs.SegmentLemmas.{resolved_path}
use Rattle.dart_uri.proofs.laws.resolved_is_a_path.Goals as goal

pub returns : goal.returns
returns c = resolved_path c.args._folder.now c.args._reference.now
