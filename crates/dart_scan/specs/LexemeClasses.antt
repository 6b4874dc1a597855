-- What lexemes are, by their bytes.
use Rattle.std.specs.Prelude.{ℕ, ◌==◌, Bool, ◌||◌, ◌≡◌, true, false, List, [], ◌∷◌, ◌++◌, codes, Contains}
use Rattle.std.specs.List.{list_all}
use Rattle.dart_tokens.specs.declared.token.Kind.{Kind}
use Rattle.dart_tokens.specs.Marks.{marks}
use Rattle.dart_scan.specs.Characters.{is_blank, is_within_line, is_beyond_ascii, is_digit, is_hexadecimal_digit, is_identifier_start, is_identifier_part}
use Rattle.dart_scan.specs.Lexemes.{begins, run}
use Rattle.dart_scan.specs.Comments.{IsComment}
use Rattle.dart_scan.specs.declared.piece.Class.{Class}
use Rattle.dart_scan.specs.declared.piece.Class.TheVariants.{Gap, UnterminatedComment, IllegalCharacter, BeyondAscii, Word, Integer, Double, Mark}

-- `e` and `E`
abbrev pub is_exponent_letter : ℕ → Bool
is_exponent_letter byte = byte == 101 || byte == 69

-- `+` and `-`
abbrev pub is_sign : ℕ → Bool
is_sign byte = byte == 43 || byte == 45

-- An exponent: `e` or `E`, a sign or none, and digits.
pub data IsExponent : List ℕ → Type 0 where
  unsigned : (letter first : ℕ) (digits : List ℕ) → is_exponent_letter letter ≡ true → list_all is_digit (first ∷ digits) ≡ true → IsExponent (letter ∷ (first ∷ digits))
  signed : (letter sign first : ℕ) (digits : List ℕ) → is_exponent_letter letter ≡ true → is_sign sign ≡ true → list_all is_digit (first ∷ digits) ≡ true
      → IsExponent (letter ∷ (sign ∷ (first ∷ digits)))

-- A word: a start of an identifier, and parts. An integer: digits, or `0x` or `0X` and hexadecimal ones. A double: digits or none, `.` and digits; the same and an exponent; or digits and an exponent. A mark of punctuation.
pub data IsLexeme : Class → List ℕ → Type 0 where
  word : (first : ℕ) {parts : List ℕ} → is_identifier_start first ≡ true → list_all is_identifier_part parts ≡ true → IsLexeme Word (first ∷ parts)
  decimal : (first : ℕ) {digits : List ℕ} → list_all is_digit (first ∷ digits) ≡ true → IsLexeme Integer (first ∷ digits)
  hexadecimal : (first : ℕ) {digits : List ℕ} → list_all is_hexadecimal_digit (first ∷ digits) ≡ true → IsLexeme Integer (codes "0x" ++ (first ∷ digits))
  upper_hexadecimal : (first : ℕ) {digits : List ℕ} → list_all is_hexadecimal_digit (first ∷ digits) ≡ true → IsLexeme Integer (codes "0X" ++ (first ∷ digits))
  fraction : (whole : List ℕ) (first : ℕ) (digits : List ℕ) → list_all is_digit whole ≡ true → list_all is_digit (first ∷ digits) ≡ true → IsLexeme Double (whole ++ (codes "." ++ (first ∷ digits)))
  fraction_exponent : (whole : List ℕ) (first : ℕ) (digits exponent : List ℕ) → list_all is_digit whole ≡ true → list_all is_digit (first ∷ digits) ≡ true → IsExponent exponent
      → IsLexeme Double (whole ++ (codes "." ++ ((first ∷ digits) ++ exponent)))
  whole_exponent : (first : ℕ) (digits exponent : List ℕ) → list_all is_digit (first ∷ digits) ≡ true → IsExponent exponent → IsLexeme Double ((first ∷ digits) ++ exponent)
  mark : (row : List ℕ × Kind) → Contains marks row → IsLexeme Mark row.0

-- What stands first in a text, of its class, and what stands behind it. A lexeme, where no comment begins. White space, all that stands there. A comment of a line, up to its end. A comment from `/*` to its `*/`, with those in it. A comment that never ends, which takes all of the text. Characters beyond ASCII, all that stand there. An ASCII character that is no white space and with which no lexeme begins.
pub data IsFirstPiece : Class → (bytes rest : List ℕ) → Type 0 where
  lexeme : {class : Class} {bytes rest : List ℕ} → begins (bytes ++ rest) (codes "//") ≡ false → begins (bytes ++ rest) (codes "/*") ≡ false → IsLexeme class bytes → IsFirstPiece class bytes rest
  white_space : (first : ℕ) (more rest : List ℕ) → list_all is_blank (first ∷ more) ≡ true → run is_blank rest ≡ 0 → IsFirstPiece Gap (first ∷ more) rest
  line_comment : (line rest : List ℕ) → list_all is_within_line line ≡ true → run is_within_line rest ≡ 0 → IsFirstPiece Gap (codes "//" ++ line) rest
  block_comment : {bytes rest : List ℕ} → IsComment bytes → IsFirstPiece Gap bytes rest
  endless_comment : (bytes : List ℕ) → begins bytes (codes "/*") ≡ true → ((comment rest : List ℕ) → IsComment comment → bytes ≡ comment ++ rest → ⊥) → IsFirstPiece UnterminatedComment bytes []
  beyond_ascii : (first : ℕ) (more rest : List ℕ) → list_all is_beyond_ascii (first ∷ more) ≡ true → run is_beyond_ascii rest ≡ 0 → IsFirstPiece BeyondAscii (first ∷ more) rest
  no_lexeme : (byte : ℕ) (rest : List ℕ) → is_beyond_ascii byte ≡ false → is_blank byte ≡ false → ((class : Class) (bytes more : List ℕ) → IsLexeme class bytes → byte ∷ rest ≡ bytes ++ more → ⊥) → IsFirstPiece IllegalCharacter (byte ∷ []) rest
