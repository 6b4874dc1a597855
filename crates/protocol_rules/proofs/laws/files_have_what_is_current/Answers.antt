use Rattle.protocol_rules.proofs.CurrentLemmas.{among_files}
use Rattle.protocol_rules.proofs.laws.files_have_what_is_current.Goals as goal

pub returns : goal.returns
returns c = among_files c.args._contents.now c.args._path.now
