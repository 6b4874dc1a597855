-- The values of strings and their bad escapes, computed.
use Rattle.std.proofs.Common.{◌≡◌, [], ◌∷◌, refl}
use Rattle.std.specs.Prelude.{codes}
use Rattle.std.specs.Str.{chars}
use Rattle.dart_text.specs.Units.{units_of}
use Rattle.dart_tokens.specs.declared.token.Kind.TheVariants.{StringLiteral, StringOpening, StringPart, StringClosing, UnterminatedString}
use Rattle.dart_scan.specs.Values.{string_value, unescaped, blank_line, bad_escapes}

-- each escape of a control character
control_characters : string_value StringLiteral (codes "'\\n\\r\\f\\b\\t\\v'") ≡ 10 ∷ 13 ∷ 12 ∷ 8 ∷ 9 ∷ 11 ∷ []
unfolding string_value unescaped blank_line units_of chars
control_characters = refl

-- two or four digits, or one to six in braces
digits : string_value StringLiteral (codes "'\\x4aB\\u004A\\u{4A}\\u{00004A}'") ≡ 74 ∷ 66 ∷ 74 ∷ 74 ∷ 74 ∷ []
unfolding string_value unescaped blank_line units_of chars
digits = refl

-- a code point is one unit or two, and a surrogate may stand alone
code_points : string_value StringLiteral (codes "'\\u{10FFFF}\\uD800\\u{D800}'") ≡ 0xDBFF ∷ 0xDFFF ∷ 0xD800 ∷ 0xD800 ∷ []
unfolding string_value unescaped blank_line units_of chars
code_points = refl

-- any other unit is itself
others : string_value StringLiteral (codes "'\\q\\$\\\\\\'\\8'") ≡ 113 ∷ 36 ∷ 92 ∷ 39 ∷ 56 ∷ []
unfolding string_value unescaped blank_line units_of chars
others = refl

-- a bad escape has no value
bad_ones_are_empty : string_value StringLiteral (codes "'a\\x4g\\u{}b'") ≡ 97 ∷ 103 ∷ 98 ∷ []
unfolding string_value unescaped blank_line units_of chars
bad_ones_are_empty = refl

-- too few digits, in both forms, with those that are there
too_few_digits : bad_escapes 1 0 (codes "\\x4g\\u12 \\x \\u\\x") ≡ record { start = 1; end = 4 } ∷ record { start = 5; end = 9 } ∷ record { start = 10; end = 12 } ∷ record { start = 13; end = 15 } ∷ record { start = 15; end = 17 } ∷ []
unfolding bad_escapes
too_few_digits = refl

-- braces with no digits, with too many, or with too high a code point
bad_braces : bad_escapes 0 0 (codes "\\u{}\\u{110000}\\u{1234567}") ≡ record { start = 0; end = 4 } ∷ record { start = 4; end = 14 } ∷ record { start = 14; end = 25 } ∷ []
unfolding bad_escapes
bad_braces = refl

-- no brace behind the digits
unclosed_braces : bad_escapes 0 0 (codes "\\u{41 \\u{g}\\u{") ≡ record { start = 0; end = 5 } ∷ record { start = 6; end = 9 } ∷ record { start = 11; end = 14 } ∷ []
unfolding bad_escapes
unclosed_braces = refl

-- what an escape takes begins none
escaped_backslash : bad_escapes 0 0 (codes "\\\\x4\\n\\u{41}\\uD800") ≡ []
unfolding bad_escapes
escaped_backslash = refl

-- a carriage return stays in a value
carriage_returns_stay : string_value StringLiteral (codes "'''a\r\nb\r'''") ≡ 97 ∷ 13 ∷ 10 ∷ 98 ∷ 13 ∷ []
unfolding string_value unescaped blank_line units_of chars
carriage_returns_stay = refl

-- each newline ends a blank first line, and only the first line is dropped
a_line_feed : string_value StringLiteral (codes "'''\n\na'''") ≡ 10 ∷ 97 ∷ []
unfolding string_value unescaped blank_line units_of chars
a_line_feed = refl

a_carriage_return : string_value StringLiteral (codes "''' \r\ta'''") ≡ 9 ∷ 97 ∷ []
unfolding string_value unescaped blank_line units_of chars
a_carriage_return = refl

both : string_value StringOpening (codes "\"\"\"\t\r\na") ≡ 97 ∷ []
unfolding string_value unescaped blank_line units_of chars
both = refl

-- backslashes before its blanks and its newline
escaped_blanks : string_value StringLiteral (codes "'''\\ \\\t\\\na'''") ≡ 97 ∷ []
unfolding string_value unescaped blank_line units_of chars
escaped_blanks = refl

-- a first line that holds more stays, and so does one without a newline
no_blank_line : string_value StringLiteral (codes "''' \\\\\n'''") ≡ 32 ∷ 92 ∷ 10 ∷ []
unfolding string_value unescaped blank_line units_of chars
no_blank_line = refl

no_newline : string_value StringLiteral (codes "''' '''") ≡ 32 ∷ []
unfolding string_value unescaped blank_line units_of chars
no_newline = refl

-- a string of one quote has no first line to drop
one_quote : string_value StringLiteral (codes "'\\\na'") ≡ 10 ∷ 97 ∷ []
unfolding string_value unescaped blank_line units_of chars
one_quote = refl

-- a raw string has no escapes, and its first line may be blank
raw : string_value StringLiteral (codes "r'''\\\n\\n'''") ≡ 92 ∷ 110 ∷ []
unfolding string_value unescaped blank_line units_of chars
raw = refl

-- the pieces of a string with interpolations
part : string_value StringPart (codes "\n\\x41") ≡ 10 ∷ 65 ∷ []
unfolding string_value unescaped blank_line units_of chars
part = refl

closing : string_value StringClosing (codes "a\\''") ≡ 97 ∷ 39 ∷ []
unfolding string_value unescaped blank_line units_of chars
closing = refl

closing_of_three : string_value StringClosing (codes "a'''") ≡ 97 ∷ []
unfolding string_value unescaped blank_line units_of chars
closing_of_three = refl

-- a string that never ends has the empty value
unterminated : string_value UnterminatedString (codes "'a") ≡ []
unfolding string_value
unterminated = refl
