use Rattle.load_files.proofs.Counting.{size}
use Rattle.load_files.proofs.laws.bytes_keep_their_count.Goals as goal

pub returns : goal.returns
returns c = size c.args._bytes.now
