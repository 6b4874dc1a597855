use Rattle.dart_scan.proofs.RunLemmas.{steps_or_pauses}
use Rattle.dart_scan.proofs.cut.cutting.Cutting.advance.Goals as goal

pub returns : goal.returns
returns c = steps_or_pauses _ _ _ c.in_ok-more.ensures
