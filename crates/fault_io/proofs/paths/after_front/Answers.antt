use Rattle.fault_io.proofs.PathLemmas.{after_front-strip}
use Rattle.fault_io.proofs.paths.after_front.Goals as goal

pub returns : goal.returns
returns c = after_front-strip c.args.front.now c.args.text.now c.strip_prefix.result c.strip_prefix.ensures.cases
