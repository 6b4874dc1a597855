-- Texts of UTF-16 code units, as they are decoded.
use Rattle.std.proofs.Common.{◌≡◌, ℕ, Bool, List, Some, None, Result, Ok, Err, String, Global, string_bytes, IfOk, is_err, ◌∙◌, sym, ap}
use Rattle.std.specs.Prelude.{if◌then◌else◌}
use Rattle.std.specs.Char.Utf16.{has_unpaired_surrogate, utf16_lossy_chars}
use Rattle.std.specs.Str.{encode_utf8_all}
use Rattle.directives.specs.Uris.{text_of_units}

-- a text was decoded
pub spelled : {E : Type 0} (units : List ℕ) (found : Result (String Global) E) (text : String Global)
    → IfOk found (λ s. string_bytes s ≡ encode_utf8_all (utf16_lossy_chars units))
    → is_err found ≡ has_unpaired_surrogate units → found ≡ Ok text → Some (string_bytes text) ≡ text_of_units units
unfolding text_of_units
spelled units (Ok s) text chars unpaired same =
    let is : Some (string_bytes text) ≡ Some (encode_utf8_all (utf16_lossy_chars units)) = ap (λ b. Some b) (sym (cc (same)) ∙ chars) in
    is ∙ ap (λ (b : Bool). if b then None else Some (encode_utf8_all (utf16_lossy_chars units))) unpaired
spelled units (Err e) text chars unpaired same = absurd (cc (same))

-- none was decoded
pub not_spelled : {E : Type 0} (units : List ℕ) (found : Result (String Global) E) (e : E) → is_err found ≡ has_unpaired_surrogate units → found ≡ Err e → None ≡ text_of_units units
unfolding text_of_units
not_spelled units (Ok s) e unpaired same = absurd (cc (same))
not_spelled units (Err f) e unpaired same = ap (λ (b : Bool). if b then None else Some (encode_utf8_all (utf16_lossy_chars units))) unpaired
