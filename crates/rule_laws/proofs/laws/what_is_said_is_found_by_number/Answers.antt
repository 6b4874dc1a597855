use Rattle.rule_laws.proofs.KeyFound.{found_by_number}
use Rattle.rule_laws.proofs.laws.what_is_said_is_found_by_number.Goals as goal

pub returns : goal.returns
returns c = found_by_number
