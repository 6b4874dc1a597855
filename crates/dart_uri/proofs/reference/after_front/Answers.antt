use Rattle.dart_uri.proofs.TextLemmas.{after_front-strip}
use Rattle.dart_uri.proofs.reference.after_front.Goals as goal

pub returns : goal.returns
returns c = after_front-strip c.args.front.now c.args.text.now c.strip_prefix.result c.strip_prefix.ensures.cases
