use Rattle.std.proofs.Common.{◌≤◌, length, arith}
use Rattle.dart_scan.specs.Pieces.{pieces}
use Rattle.dart_scan.specs.StepLemmas.{pieces-cover, pieces-some}
use Rattle.dart_scan.proofs.laws.pieces_cover_a_text.Goals as goal

pub returns : goal.returns
unfolding pieces
returns c =
    let enough : length c.args._text.now ≤ length c.args._text.now = omega arith in
    record { cover = pieces-cover _ _ c.args._text.now enough; some = pieces-some _ _ c.args._text.now }
