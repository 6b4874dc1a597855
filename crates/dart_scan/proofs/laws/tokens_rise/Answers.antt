use Rattle.dart_scan.proofs.TokenLaws.{tokens_some, tokens_in_order}
use Rattle.dart_scan.proofs.laws.tokens_rise.Goals as goal

pub returns : goal.returns
returns c = record { some = tokens_some c.args._text.now; apart = tokens_in_order c.args._text.now }
