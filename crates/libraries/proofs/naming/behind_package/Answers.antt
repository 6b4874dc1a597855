use Rattle.std.specs.Prelude.{codes}
use Rattle.libraries.proofs.Prefixes.{after_front-strip}
use Rattle.libraries.proofs.naming.behind_package.Goals as goal

pub returns : goal.returns
returns c = after_front-strip (codes "package:") c.args.text.now c.strip_prefix.result c.strip_prefix.ensures.cases
