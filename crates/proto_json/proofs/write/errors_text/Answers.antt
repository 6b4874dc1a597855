use Rattle.std.proofs.Common.{◌++◌, ap, ◌∙◌, sym}
use Rattle.proto_json.specs.RowTexts.{rows_text, errors_back}
use Rattle.proto_json.proofs.ReplyLemmas.{errors_text}
use Rattle.proto_json.proofs.write.errors_text.Goals as goal

pub returns : goal.returns
returns c =
    let written = c.in_ok-add_rows.ensures ∙ ap (λ text. text ++ rows_text c.args.rows.now) c.in_ok-text.ensures in
    c.in_ok-extend_from_slice.ensures.items ∙ ap (λ text. text ++ errors_back) written ∙ sym (errors_text c.args.id.now c.args.rows.now)
