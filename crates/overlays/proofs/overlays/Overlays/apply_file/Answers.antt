use Rattle.std.proofs.Common.{sym, ap, ◌∙◌, Ok, refl}
use Rattle.std.proofs.lemmas.Result.{err_from_is_err_and}
use Rattle.overlays.specs.Tables.{drop_text}
use Rattle.overlays.proofs.Requests.{file_applied, file_refused}
use Rattle.overlays.proofs.overlays.Overlays.apply_file.Goals as goal

-- the text of the file is refused
pub returns-in_err-text : goal.returns-in_err-text
returns-in_err-text c =
    let left = err_from_is_err_and c.from_residual.result c.from_residual.ensures.1 in
    let told = rw (c.text.ensures, c.as_str.ensures) at c.text_after.ensures in
    rw (left.1, left.2) (refl, file_refused c.args.file.now c.args.self.now c.text_after.result told c.in_err-text.field-0.0 c.in_err-text.was)

-- the file has a text
pub returns-in_ok-put-in-Some : goal.returns-in_ok-put-in-Some
returns-in_ok-put-in-Some c =
    let told = rw (c.text.ensures, c.as_str.ensures) at c.text_after.ensures in
    file_applied c.args.file.now c.args.self.now c.text_after.result told _ (c.in_ok-text.was ∙ ap Ok c.in-Some.is) ∙ ap Ok (sym c.in_ok-put-in-Some.ensures.ok)

-- the file has none
pub returns-in-None : goal.returns-in-None
returns-in-None c =
    let told = rw (c.text.ensures, c.as_str.ensures) at c.text_after.ensures in
    file_applied c.args.file.now c.args.self.now c.text_after.result told _ (c.in_ok-text.was ∙ ap Ok c.in-None.is)
    ∙ ap Ok (ap (λ path. drop_text path c.args.self.now) (sym c.as_str-in-None.ensures) ∙ sym c.remove.ensures)
