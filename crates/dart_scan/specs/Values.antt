-- The values of strings, as lists of UTF-16 code units.
use Rattle.std.specs.Prelude.{ℕ, zero, suc, ◌+◌, ◌-◌, ◌*◌, ◌==◌, Bool, false, ◌&&◌, ◌||◌, List, [], ◌∷◌, ◌++◌, length, take, drop, take_while, fold, codes, nat_le, if◌then◌else◌, Option, Some, None, option_map, unwrap_or, slice_get}
use Rattle.std.specs.Option.{option_map_or}
use Rattle.std.specs.Char.Escape.{encode_utf16}
use Rattle.dart_text.specs.Units.{units_of}
use Rattle.dart_tokens.specs.declared.token.Kind.{Kind}
use Rattle.dart_tokens.specs.declared.token.Kind.TheVariants.{StringLiteral, StringOpening, StringPart, StringClosing}
use Rattle.dart_scan.specs.Characters.{is_hexadecimal_digit}
use Rattle.dart_scan.specs.Lexemes.{begins}
use Rattle.dart_scan.specs.Strings.{Form, opening_of, string_form}

-- the value of a hexadecimal digit
abbrev pub digit_of : ℕ → ℕ
digit_of unit = if nat_le unit 57 then unit - 48 else (if nat_le unit 70 then unit - 55 else unit - 87)

-- the number that hexadecimal digits stand for
abbrev pub hexadecimal_value : List ℕ → ℕ
hexadecimal_value digits = fold (λ number digit. 16 * number + digit_of digit) 0 digits

-- an escape behind its backslash: the code units that it stands for, or none if it is bad, and how many units it takes
pub record Escape : Type 0 where
  pub value : Option (List ℕ)
  pub size : ℕ

-- a letter, and as many hexadecimal digits as it asks for; a bad escape takes those that are there
abbrev pub digits_escape : (count : ℕ) → List ℕ → Escape
digits_escape count units =
    let digits = take_while is_hexadecimal_digit (take count units) in
    record { value = if length digits == count then Some (hexadecimal_value digits ∷ []) else None; size = 1 + length digits }

-- the character of a code point of one to six digits
abbrev pub code_point : List ℕ → Option (List ℕ)
code_point digits =
    if nat_le 1 (length digits) && (nat_le (length digits) 6 && nat_le (hexadecimal_value digits) 0x10FFFF) then Some (encode_utf16 (hexadecimal_value digits)) else None

-- `u{`, hexadecimal digits and `}`; a bad escape takes all digits, and the `}` if it stands behind them
abbrev pub braced_escape : List ℕ → Escape
braced_escape units =
    let digits = take_while is_hexadecimal_digit units in
    if begins (drop (length digits) units) (codes "}")
    then record { value = code_point digits; size = 3 + length digits }
    else record { value = None; size = 2 + length digits }

-- the control characters that have a letter
abbrev pub control_of : ℕ → Option ℕ
control_of unit =
    if unit == 110 then Some 10 else (if unit == 114 then Some 13 else (if unit == 102 then Some 12
    else (if unit == 98 then Some 8 else (if unit == 116 then Some 9 else (if unit == 118 then Some 11 else None)))))

-- The escape behind a backslash: `\n \r \f \b \t \v` are control characters, `\xHH`, `\uHHHH` and `\u{H..}` characters by their code points, and any other unit is itself.
abbrev pub escape_at : List ℕ → Escape
escape_at [] = record { value = None; size = 0 }
escape_at (unit ∷ units) =
    if unit == 120 then digits_escape 2 units
    else (if unit == 117 then (if begins units (codes "{") then braced_escape (drop 1 units) else digits_escape 4 units)
    else record { value = Some (unwrap_or (control_of unit) unit ∷ []); size = 1 })

-- the code units that units with escapes stand for, of which the first `taken` belong to an escape before them; a bad escape stands for none
unfoldable pub unescaped : (taken : ℕ) → List ℕ → List ℕ
unescaped taken [] = []
unescaped (suc taken) (unit ∷ units) = unescaped taken units
unescaped zero (unit ∷ units) =
    if unit == 92 then unwrap_or (escape_at units).value [] ++ unescaped (escape_at units).size units
    else unit ∷ unescaped zero units

-- a place in a text, from its first to past its last UTF-16 code unit
pub record Range : Type 0 where
  pub start : ℕ
  pub end : ℕ

-- where the bad escapes stand among units, of which the first has this offset
unfoldable pub bad_escapes : (offset : ℕ) → (taken : ℕ) → List ℕ → List Range
bad_escapes offset taken [] = []
bad_escapes offset (suc taken) (unit ∷ units) = bad_escapes (offset + 1) taken units
bad_escapes offset zero (unit ∷ units) =
    if unit == 92
    then option_map_or (λ value. []) (escape_at units).value (record { start = offset; end = offset + 1 + (escape_at units).size } ∷ [])
    ++ bad_escapes (offset + 1) (escape_at units).size units
    else bad_escapes (offset + 1) zero units

-- a space or a tab
abbrev pub is_space : ℕ → Bool
is_space unit = unit == 32 || unit == 9

-- a line feed or a carriage return
abbrev pub is_newline : ℕ → Bool
is_newline unit = unit == 10 || unit == 13

-- the first unit is of a class
abbrev pub first_is : (ℕ → Bool) → List ℕ → Bool
first_is class units = option_map_or class (slice_get units 0) false

-- how long the first line is with its newline, if it holds only spaces and tabs; each of these and the newline may have a backslash before it
unfoldable pub blank_line : List ℕ → Option ℕ
blank_line [] = None
blank_line (unit ∷ units) =
    if is_space unit then option_map (λ n. n + 1) (blank_line units)
    else (if unit == 10 then Some 1
    else (if unit == 13 then Some (if first_is (λ u. u == 10) units then 2 else 1)
    else (if unit == 92 && first_is (λ u. is_space u || is_newline u) units then option_map (λ n. n + 1) (blank_line units)
    else None)))

-- the units of a string of three quotes that belong to its value: a blank first line doesn't
abbrev pub without_blank_line : List ℕ → List ℕ
without_blank_line units = drop (unwrap_or (blank_line units) 0) units

-- the units between the quotes, escapes as they are written; those of a string of one quote all belong to the value
abbrev pub written_units : Form → List ℕ → List ℕ
written_units form content = if length form.quotes == 1 then units_of content else without_blank_line (units_of content)

-- what units between quotes stand for; in a raw string they are themselves
abbrev pub value_in : Form → List ℕ → List ℕ
value_in form units = if form.raw then units else unescaped 0 units

-- the value of the front of a string, from its opening on, without so many quotes at its end
abbrev pub front_value : Form → (quotes : ℕ) → List ℕ → List ℕ
front_value form quotes lexeme =
    let content = drop (length (opening_of form)) lexeme in value_in form (written_units form (take (length content - quotes) content))

-- how many quotes close a string that ends with this lexeme: three equal ones, or else one
abbrev pub closing_quotes : List ℕ → ℕ
closing_quotes lexeme =
    let last = drop (length lexeme - 3) lexeme in if begins last (codes "'''") || begins last (codes "\"\"\"") then 3 else 1

-- The value of a piece of a string, without its quotes. A lexeme of another kind has the empty one.
unfoldable pub string_value : Kind → List ℕ → List ℕ
string_value StringLiteral lexeme = option_map_or (λ form. front_value form (length form.quotes) lexeme) (string_form lexeme) []
string_value StringOpening lexeme = option_map_or (λ form. front_value form 0 lexeme) (string_form lexeme) []
string_value StringPart lexeme = unescaped 0 (units_of lexeme)
string_value StringClosing lexeme = unescaped 0 (units_of (take (length lexeme - closing_quotes lexeme) lexeme))
string_value _ lexeme = []
