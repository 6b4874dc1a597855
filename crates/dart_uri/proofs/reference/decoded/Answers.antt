use Rattle.std.proofs.Common.{◌≡◌, ◌∙◌, false, rules}
use Rattle.percent_encoding.specs.Percent.{percent_decode}
use Rattle.std.specs.Str.{is_utf8}
use Rattle.std.proofs.lemmas.Bool.{false_from_ne_true}
use Rattle.std.proofs.lemmas.Str.{is_utf8-from_IsUtf8, IsUtf8-from_is_utf8}
use Rattle.dart_uri.proofs.PathLemmas.{decoded_text, decoded_none}
use Rattle.dart_uri.proofs.reference.decoded.Goals as goal

-- the bytes are UTF-8
pub returns-in-Ok : goal.returns-in-Ok
returns-in-Ok c =
    let text = c.in-Ok.ensures.cases in
    let bytes : c.deref.result.now ≡ percent_decode c.args.escaped.now = search rules in
    decoded_text c.args.escaped.now c.in_ok-text-in-Ok.text (is_utf8-from_IsUtf8 _ text.1) bytes (c.in_ok-text-in-Ok.ensures ∙ text.0)

-- or not
pub returns : goal.returns
returns c =
    let bytes : c.deref.result.now ≡ percent_decode c.args.escaped.now = search rules in
    let other : is_utf8 c.deref.result.now ≡ false = false_from_ne_true _ (λ yes. c.in-Err.ensures.cases.0 (IsUtf8-from_is_utf8 c.deref.result.now yes)) in
    decoded_none c.args.escaped.now c.deref.result.now other bytes
