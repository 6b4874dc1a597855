use Rattle.std.proofs.Common.{◌≡◌, ◌-◌, take, length, ap, sym, ◌∙◌}
use Rattle.dart_scan.specs.Values.{closing_quotes, string_value}
use Rattle.dart_scan.proofs.KindValues.{no_value}
use Rattle.dart_scan.proofs.value.string_value.Goals as goal

pub returns-in-StringLiteral : goal.returns-in-StringLiteral
unfolding string_value
returns-in-StringLiteral c = rw (c.in-StringLiteral.is, ← c.as_bytes-bytes.ensures.value) c.literal_value.ensures

pub returns-in-StringOpening : goal.returns-in-StringOpening
unfolding string_value
returns-in-StringOpening c = rw (c.in-StringOpening.is, ← c.as_bytes-bytes.ensures.value) c.opening_value.ensures

pub returns-in-StringPart : goal.returns-in-StringPart
unfolding string_value
returns-in-StringPart c = rw (c.in-StringPart.is, ← c.as_bytes-bytes.ensures.value) c.part_value.ensures

pub returns-in-StringClosing : goal.returns-in-StringClosing
unfolding string_value
returns-in-StringClosing c =
    let bytes = c.as_bytes-bytes.result.now in
    let part : c.without_last.result.now ≡ take (length c.args.lexeme.now - closing_quotes c.args.lexeme.now) c.args.lexeme.now =
    c.without_last.ensures ∙ ap (λ n. take (length bytes - n) bytes) c.closing_quotes.ensures
    ∙ ap (λ lexeme. take (length lexeme - closing_quotes lexeme) lexeme) c.as_bytes-bytes.ensures.value in
    rw (c.in-StringClosing.is, ← part) c.part_value-in-StringClosing.ensures

pub returns-in_default : goal.returns-in_default
returns-in_default c =
    c.new.ensures.items ∙ sym (no_value c.args.kind c.args.lexeme.now c.in_default.not-StringLiteral c.in_default.not-StringOpening c.in_default.not-StringPart c.in_default.not-StringClosing)
