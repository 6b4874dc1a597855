use Rattle.libraries.proofs.Distinct.{paths_are_those_of_files}
use Rattle.libraries.proofs.laws.paths_are_those_of_files.Goals as goal

pub returns : goal.returns
returns c = paths_are_those_of_files
