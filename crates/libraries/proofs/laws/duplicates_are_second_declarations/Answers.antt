use Rattle.libraries.proofs.Seconds.{duplicates_are_second}
use Rattle.libraries.proofs.laws.duplicates_are_second_declarations.Goals as goal

pub returns : goal.returns
returns c = duplicates_are_second
