use Rattle.load_files.proofs.Outcome.{has_the_files}
use Rattle.load_files.proofs.laws.snapshot_has_the_files_of_the_roots.Goals as goal

pub returns : goal.returns
returns c = λ stored kept sound paths. has_the_files stored c.args._roots.now kept sound paths
