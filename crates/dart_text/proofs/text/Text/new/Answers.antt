use Rattle.std.proofs.Common.{◌≡◌, false, inr, Err, sym, ap, ◌∙◌, subst}
use Rattle.std.specs.Str.{is_utf8}
use Rattle.std.proofs.lemmas.Bool.{cond-true, cond-false, false_from_ne_true}
use Rattle.std.proofs.lemmas.Str.{is_utf8-from_IsUtf8, IsUtf8-from_is_utf8}
use Rattle.dart_text.specs.Edits.{short_text, text_in_bytes}
use Rattle.dart_text.specs.Results.{IsUnlessMemory}
use Rattle.dart_text.specs.declared.text.TextRefusal.TheVariants.{NotUtf8}
use Rattle.dart_text.proofs.text.Text.new.Goals as goal

pub returns-in-Ok : goal.returns-in-Ok
unfolding text_in_bytes
returns-in-Ok c =
    let text = c.in-Ok.ensures.cases in
    let answer = cond-true (is_utf8 c.args.bytes.now) (short_text c.args.bytes.now) (Err NotUtf8) (is_utf8-from_IsUtf8 c.args.bytes.now text.1) in
    subst (IsUnlessMemory c.from_str.result) (ap short_text text.0 ∙ sym answer) c.from_str.ensures

pub returns-in-Err : goal.returns-in-Err
unfolding text_in_bytes
returns-in-Err c =
    let other : is_utf8 c.args.bytes.now ≡ false = false_from_ne_true _ (λ yes. c.in-Err.ensures.cases.0 (IsUtf8-from_is_utf8 c.args.bytes.now yes)) in
    inr (sym (cond-false (is_utf8 c.args.bytes.now) (short_text c.args.bytes.now) (Err NotUtf8) other))
