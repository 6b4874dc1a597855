use Rattle.std.proofs.Common.{arith, sym}
use Rattle.std.proofs.lemmas.Bool.{lt-leb}
use Rattle.std.proofs.lemmas.List.Sums.{sum_by_more_le}
use Rattle.load_files.specs.Kept.{bytes_of}
use Rattle.load_files.specs.declared.kept.KeptFile.{KeptFile}
use Rattle.load_files.specs.declared.loading.TheConstants.{MAX_BYTES}
use Rattle.load_files.proofs.kept.are_small.Goals as goal

pub returns-then-file-left : goal.returns-then-file-left
returns-then-file-left c =
    let more = rw (← c.file-item.is) at (sum_by_more_le (λ (f : KeptFile). f.bytes) c.args.kept.now c.loop-file.file-index c.file-item.result c.loop-file-test.true) in
    let so_far = c.loop-file.invariant in
    let past = c.if-file-left.true in
    sym (lt-leb (bytes_of c.args.kept.now) MAX_BYTES (omega (arith, more, so_far, past)))
