use Rattle.std.proofs.Common.{arith}
use Rattle.std.proofs.lemmas.List.Sums.{sum_by_more_le}
use Rattle.load_files.specs.declared.kept.KeptFile.{KeptFile}
use Rattle.load_files.proofs.Counting.{kept_small}
use Rattle.load_files.proofs.kept.bytes_of.Goals as goal

pub overflow_add-bytes : goal.overflow_add-bytes
overflow_add-bytes c =
    let small = kept_small c.args.kept.now c.requires in
    let more = rw (← c.file-item.is) at (sum_by_more_le (λ (f : KeptFile). f.bytes) c.args.kept.now c.loop-file.file-index c.file-item.result c.loop-file-test.true) in
    let so_far = c.loop-file.invariant in
    omega (arith, small, more, so_far)
