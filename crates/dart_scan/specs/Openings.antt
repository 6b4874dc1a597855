-- Open strings, as the scanner keeps them.
use Rattle.std.specs.Prelude.{ℕ, ◌==◌, Bool, not, ◌&&◌, List, ◌∷◌, if◌then◌else◌}
use Rattle.dart_scan.specs.declared.cut.form.StringForm.{StringForm}
use Rattle.dart_scan.specs.Strings.{Form}

-- the form that is kept
abbrev pub shape : StringForm → Form
shape form = record { raw = form.raw; quotes = form.quotes.now }

-- how many bytes are plain together: two, where a backslash takes the byte behind it, which it does unless the string is raw
abbrev pub taken : (raw : Bool) → List ℕ → ℕ
taken raw (byte ∷ next ∷ text) = if not raw && byte == 92 then 2 else 1
taken raw text = 1
