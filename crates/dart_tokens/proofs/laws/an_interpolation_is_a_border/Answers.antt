use Rattle.dart_tokens.proofs.LawLemmas.{bordered}
use Rattle.dart_tokens.proofs.laws.an_interpolation_is_a_border.Goals as goal

pub returns : goal.returns
returns c = bordered c.args._tokens.now
