use Rattle.std.proofs.Common.{rules}
use Rattle.text_places.specs.Hashes.{hash_of}
use Rattle.text_places.proofs.hashes.hash_of.Goals as goal

pub returns : goal.returns
unfolding hash_of
returns c = search rules
