use Rattle.std.proofs.Common.{codes}
use Rattle.std.proofs.lemmas.Str.Pattern.{ends_text}
use Rattle.protocol_rules.proofs.files.is_library.Goals as goal

pub returns : goal.returns
returns c = ends_text c.ends_with.result (codes ".dart") c.args.path.now c.ends_with.ensures.cases
