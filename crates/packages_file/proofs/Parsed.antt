-- Which JSON value bytes are, case by case.
use Rattle.std.proofs.Common.{◌≡◌, ℕ, List, Bool, true, false, cond, Some, None, refl, sym}
use Rattle.std.specs.Prelude.{IsUtf8}
use Rattle.std.specs.Str.{is_utf8}
use Rattle.std.proofs.lemmas.Str.{is_utf8-from_IsUtf8, IsUtf8-from_is_utf8}
use Rattle.serde_json.specs.Data.{Data}
use Rattle.serde_json.specs.Read.{read}
use Rattle.proto_json.specs.Requests.{line_data}

-- bytes that are UTF-8 and are read are that value
pub parsed : (bytes : List ℕ) (d : Data) → IsUtf8 bytes → read bytes ≡ Some d → Some d ≡ line_data bytes
unfolding line_data
parsed bytes d text is = rw (is_utf8-from_IsUtf8 bytes text) (sym is)

unread : (bytes : List ℕ) (b : Bool) → is_utf8 bytes ≡ b → (IsUtf8 bytes → read bytes ≡ None) → None ≡ cond b (read bytes) None
unread bytes true is h = sym (h (IsUtf8-from_is_utf8 bytes is))
unread bytes false is h = refl

-- bytes that aren't read where they are UTF-8 are no value
pub unparsed : (bytes : List ℕ) → (IsUtf8 bytes → read bytes ≡ None) → None ≡ line_data bytes
unfolding line_data
unparsed bytes h = unread bytes (is_utf8 bytes) refl h
