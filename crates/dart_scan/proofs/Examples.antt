-- The definitions computed on small texts.
use Rattle.std.proofs.Common.{◌≡◌, [], ◌∷◌, refl}
use Rattle.std.specs.Prelude.{codes}
use Rattle.dart_tokens.specs.declared.scanned.LexFaultKind.TheVariants.{UnterminatedString, BadEscape, IllegalCharacter}
use Rattle.dart_tokens.specs.declared.token.Kind.TheVariants as kind
use Rattle.dart_scan.specs.declared.piece.Class.TheVariants.{Gap, Word, Integer, Double, Mark, StringLiteral, StringOpening, StringPart, StringClosing, InterpolationMark, InterpolationOpening, InterpolationClosing}
use Rattle.dart_scan.specs.declared.piece.Class.TheVariants as class
use Rattle.dart_scan.specs.Pieces.{pieces, pieces_within, within_steps}
use Rattle.dart_scan.specs.Strings.{plain_size}
use Rattle.dart_scan.specs.Values.{string_value, unescaped, blank_line, bad_escapes}
use Rattle.dart_scan.specs.Scanned.{faults_of, faults_from}
use Rattle.dart_text.specs.Units.{units_of}
use Rattle.std.specs.Str.{chars}

-- an interpolation of an expression with braces of its own, and one by name
an_interpolation_ends_at_its_own_brace : pieces (codes "'a${{b}}$c'") ≡ (StringOpening, codes "'a") ∷ (InterpolationOpening, codes "${") ∷ (Mark, codes "{") ∷ (Word, codes "b") ∷ (Mark, codes "}") ∷ (InterpolationClosing, codes "}") ∷ (InterpolationMark, codes "$") ∷ (Word, codes "c") ∷ (StringClosing, codes "'") ∷ []
unfolding pieces pieces_within within_steps plain_size
an_interpolation_ends_at_its_own_brace = refl

-- a string in a string
a_string_may_hold_strings : pieces (codes "\"${'}'}\"") ≡ (StringOpening, codes "\"") ∷ (InterpolationOpening, codes "${") ∷ (StringLiteral, codes "'}'") ∷ (InterpolationClosing, codes "}") ∷ (StringClosing, codes "\"") ∷ []
unfolding pieces pieces_within within_steps plain_size
a_string_may_hold_strings = refl

-- a line ends a string of one quote, in an interpolation too, and then the string has no parts
a_line_ends_a_string : pieces (codes "'a${b\n}' x") ≡ (class.UnterminatedString, codes "'a${b") ∷ (Gap, codes "\n") ∷ (Mark, codes "}") ∷ (class.UnterminatedString, codes "' x") ∷ []
unfolding pieces pieces_within within_steps plain_size
a_line_ends_a_string = refl

-- a reserved word behind a `$` is text
a_reserved_word_is_text : pieces (codes "'$if$x'") ≡ (StringOpening, codes "'$if") ∷ (InterpolationMark, codes "$") ∷ (Word, codes "x") ∷ (StringClosing, codes "'") ∷ []
unfolding pieces pieces_within within_steps plain_size
a_reserved_word_is_text = refl

-- raw strings have neither escapes nor interpolations
a_raw_string_is_as_it_stands : pieces (codes "r'\\'r") ≡ (StringLiteral, codes "r'\\'") ∷ (Word, codes "r") ∷ []
unfolding pieces pieces_within within_steps plain_size
a_raw_string_is_as_it_stands = refl

-- three quotes end at the first three
three_quotes : pieces (codes "'''a''\\''''") ≡ (StringLiteral, codes "'''a''\\''''") ∷ []
unfolding pieces pieces_within within_steps plain_size
three_quotes = refl

-- the value of a string, whose blank first line doesn't count
a_blank_first_line_is_dropped : string_value kind.StringLiteral (codes "''' \\\t\r\na\\x41\\u{1F600}\\q'''") ≡ 97 ∷ 65 ∷ 0xD83D ∷ 0xDE00 ∷ 113 ∷ []
unfolding string_value unescaped blank_line units_of chars
a_blank_first_line_is_dropped = refl

-- what is wrong with a text
faults : faults_of (codes "a`'\\x4' 'b") ≡ record { kind = IllegalCharacter; start = 1; end = 2 } ∷ record { kind = BadEscape; start = 3; end = 6 } ∷ record { kind = UnterminatedString; start = 8; end = 10 } ∷ []
unfolding faults_from pieces pieces_within within_steps plain_size bad_escapes units_of chars
faults = refl
