use Rattle.std.proofs.Common.{◌∙◌, refl, arith}
use Rattle.std.proofs.lemmas.Result.{err_from_is_err_and}
use Rattle.overlays.proofs.Requests.{one_more_file, refused_file, no_more_files}
use Rattle.overlays.proofs.overlays.Overlays.apply.Goals as goal

-- a refused file refuses the request
pub returns-in_err-apply_file : goal.returns-in_err-apply_file
returns-in_err-apply_file c =
    let left = err_from_is_err_and c.from_residual-in_err-apply_file.result c.from_residual-in_err-apply_file.ensures.1 in
    rw (left.1, left.2)
    (refl, refused_file c.args.files.now c.loop-file.file-index c.loop-file.changed c.file-item.result c.in_err-apply_file.field-0.0 _ c.loop-file-test.true c.file-item.is c.loop-file.invariant c.in_err-apply_file.ensures.1)

-- one more file
pub loop-file-preserved : goal.loop-file-preserved
loop-file-preserved c =
    c.loop-file.invariant ∙ one_more_file c.args.files.now c.loop-file.file-index c.loop-file.changed c.file-item.result c.apply_file.new.self c.loop-file-test.true c.file-item.is c.in_ok-apply_file.ensures

-- no file is left
pub returns : goal.returns
returns c = c.loop-file.invariant ∙ no_more_files c.args.files.now c.loop-file.file-index c.loop-file.changed (omega arith)
