-- The forms of strings: how they open, how far they may reach, and what ends a piece of one.
use Rattle.std.specs.Prelude.{ℕ, ◌+◌, ◌==◌, Bool, true, false, not, ◌&&◌, ◌||◌, List, [], ◌∷◌, length, take, take_while, drop, codes, bytes_eq, nat_lt, if◌then◌else◌, Option, Some, None}
use Rattle.dart_scan.specs.Characters.{is_within_line, is_identifier_start, is_identifier_part}
use Rattle.dart_scan.specs.Lexemes.{begins, run}
use Rattle.dart_tokens.specs.Words.{is_reserved}

-- a form of strings: the quotes that end it, and whether it is raw, with no escapes and no interpolations
pub record Form : Type 0 where
  pub raw : Bool
  pub quotes : List ℕ

-- what a string begins with: an `r` or none, and its quotes
abbrev pub opening_of : Form → List ℕ
opening_of form = if form.raw then 114 ∷ form.quotes else form.quotes

-- a form of each kind, raw or not
abbrev pub form_of : Bool → List ℕ → Form
form_of raw quotes = record { raw = raw; quotes = quotes }

-- the forms, those of three quotes before those of one
abbrev pub forms : List Form
forms =
    form_of true (codes "'''") ∷ form_of true (codes "\"\"\"") ∷ form_of false (codes "'''") ∷ form_of false (codes "\"\"\"")
    ∷ form_of true (codes "'") ∷ form_of true (codes "\"") ∷ form_of false (codes "'") ∷ form_of false (codes "\"") ∷ []

-- the first of these forms whose opening the text begins with
abbrev pub first_form : List Form → List ℕ → Option Form
first_form [] text = None
first_form (form ∷ more) text = if begins text (opening_of form) then Some form else first_form more text

-- the form of the string that a text begins with
abbrev pub string_form : List ℕ → Option Form
string_form text = first_form forms text

-- As far as a string may reach: one of one quote to the end of its line, one of three to the end of the text.
abbrev pub within_reach : Form → List ℕ → List ℕ
within_reach form text = if length form.quotes == 1 then take_while is_within_line text else text

-- a start of an identifier other than `$`
abbrev pub is_name_start : ℕ → Bool
is_name_start byte = is_identifier_start byte && not (byte == 36)

-- a part of an identifier other than `$`
abbrev pub is_name_part : ℕ → Bool
is_name_part byte = is_identifier_part byte && not (byte == 36)

-- how long the name is with which a text begins: an identifier without `$`
abbrev pub name_size : List ℕ → ℕ
name_size [] = 0
name_size (byte ∷ text) = if is_name_start byte then 1 + run is_name_part text else 0

-- the word may stand behind a `$`: it is `this`, or an identifier
abbrev pub is_interpolated : List ℕ → Bool
is_interpolated word = bytes_eq word (codes "this") || not (is_reserved word)

-- the text begins with a `$` and a name
abbrev pub begins_name : List ℕ → Bool
begins_name text = begins text (codes "$") && (nat_lt 0 (name_size (drop 1 text)) && is_interpolated (take (name_size (drop 1 text)) (drop 1 text)))

-- the text begins with an interpolation
abbrev pub begins_interpolation : List ℕ → Bool
begins_interpolation text = begins text (codes "${") || begins_name text

-- a piece of a string ends here: the string ends, or an interpolation begins
abbrev pub ends_piece : Form → List ℕ → Bool
ends_piece form text = begins text form.quotes || (not form.raw && begins_interpolation text)

-- a backslash that takes the byte behind it with it
abbrev pub begins_escape : Form → ℕ → Bool
begins_escape form byte = not form.raw && byte == 92

-- how many bytes stand before the end of a piece of a string, or before the end of the text; what stands behind a backslash ends none, but in a raw string
unfoldable pub plain_size : Form → List ℕ → ℕ
plain_size form [] = 0
plain_size form (byte ∷ []) = if ends_piece form (byte ∷ []) then 0 else 1
plain_size form (byte ∷ next ∷ text) =
    if ends_piece form (byte ∷ next ∷ text) then 0
    else (if begins_escape form byte then 2 + plain_size form text else 1 + plain_size form (next ∷ text))
