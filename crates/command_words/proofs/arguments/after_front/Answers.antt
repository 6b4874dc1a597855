use Rattle.command_words.proofs.TextLemmas.{after_front-strip}
use Rattle.command_words.proofs.arguments.after_front.Goals as goal

pub returns : goal.returns
returns c = after_front-strip c.args.front.now c.args.text.now c.strip_prefix.result c.strip_prefix.ensures.cases
