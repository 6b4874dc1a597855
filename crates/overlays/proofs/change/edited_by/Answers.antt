use Rattle.std.proofs.Common.{inr, Ok, sym, ap, ◌∙◌, arith}
use Rattle.std.proofs.lemmas.Result.{err_from_is_err_and}
use Rattle.overlays.proofs.Requests.{one_more_edit, refused_edit, no_more_edits}
use Rattle.overlays.proofs.change.edited_by.Goals as goal

-- a refused edit refuses all
pub returns-in_err-edit : goal.returns-in_err-edit
returns-in_err-edit c =
    let left = err_from_is_err_and c.from_residual-in_err-edit.result c.from_residual-in_err-edit.ensures.1 in
    let refused = rw c.as_str.ensures at c.in_err-edit.ensures.1 in
    rw (left.1, left.2)
    (refused_edit c.args.edits.now c.loop-edit.edit-index c.loop-edit.edited c.edit-item.result c.in_err-edit.field-0.0 _ c.loop-edit-test.true c.edit-item.is c.loop-edit.invariant refused)

-- one more edit
pub loop-edit-preserved : goal.loop-edit-preserved
loop-edit-preserved c =
    let done = rw c.as_str.ensures at c.in_ok-edit.ensures in
    c.loop-edit.invariant ∙ one_more_edit c.args.edits.now c.loop-edit.edit-index c.loop-edit.edited c.edit-item.result c.edit.new.self c.loop-edit-test.true c.edit-item.is done

-- no edit is left
pub returns : goal.returns
returns c = inr (ap Ok c.in_ok-text.ensures ∙ sym (c.loop-edit.invariant ∙ no_more_edits c.args.edits.now c.loop-edit.edit-index c.loop-edit.edited (omega arith)))
