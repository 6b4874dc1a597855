use Rattle.dart_uri.proofs.TextLemmas.{keeps_all}
use Rattle.dart_uri.proofs.segments.without_last_slash.Goals as goal

pub returns-in-None : goal.returns-in-None
returns-in-None c = keeps_all c.args.text.now c.in-None.ensures.cases
