-- What a line is, case by case.
use Rattle.std.proofs.Common.{◌≡◌, ℕ, List, Bool, true, false, cond, Some, None, refl, sym}
use Rattle.std.specs.Prelude.{IsUtf8}
use Rattle.std.specs.Str.{is_utf8}
use Rattle.std.proofs.lemmas.Str.{is_utf8-from_IsUtf8, IsUtf8-from_is_utf8}
use Rattle.serde_json.specs.Data.{Data}
use Rattle.serde_json.specs.Read.{read}
use Rattle.proto_json.specs.Requests.{line_data}

-- a line that is UTF-8 and is read is that value
pub line_data-read : (line : List ℕ) (d : Data) → IsUtf8 line → read line ≡ Some d → Some d ≡ line_data line
unfolding line_data
line_data-read line d u e = rw (is_utf8-from_IsUtf8 line u) (sym e)

none_by : (line : List ℕ) (b : Bool) → is_utf8 line ≡ b → (IsUtf8 line → read line ≡ None) → None ≡ cond b (read line) None
none_by line true is h = sym (h (IsUtf8-from_is_utf8 line is))
none_by line false is h = refl

-- a line that is not read if it is UTF-8 is no value
pub line_data-unread : (line : List ℕ) → (IsUtf8 line → read line ≡ None) → None ≡ line_data line
unfolding line_data
line_data-unread line h = none_by line (is_utf8 line) refl h
