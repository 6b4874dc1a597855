-- The tokens, the words and the faults of a text.
use Rattle.std.specs.Prelude.{ℕ, ◌+◌, Bool, true, false, List, [], ◌∷◌, ◌++◌, bytes_eq, if◌then◌else◌}
use Rattle.std.specs.List.{list_any, position_or_len}
use Rattle.plain_text.specs.Units.{units_in}
use Rattle.dart_tokens.specs.Marks.{marks}
use Rattle.dart_tokens.specs.Words.{kind_beside, kind_of_word}
use Rattle.dart_tokens.specs.declared.scanned.LexFault.{LexFault}
use Rattle.dart_tokens.specs.declared.token.Kind.{Kind}
use Rattle.dart_tokens.specs.declared.token.Kind.TheVariants as kind
use Rattle.dart_tokens.specs.declared.token.Token.{Token}
use Rattle.dart_scan.specs.declared.piece.Class.{Class}
use Rattle.dart_scan.specs.declared.piece.Class.TheVariants.{Gap, UnterminatedComment, IllegalCharacter, BeyondAscii, Word, Integer, Double, Mark, StringLiteral, StringOpening, StringPart, StringClosing, UnterminatedString, InterpolationMark, InterpolationOpening, InterpolationClosing}
use Rattle.dart_scan.specs.Faults.{faults_of_piece}
use Rattle.dart_scan.specs.Pieces.{Spelled, pieces}

-- what stands between lexemes
abbrev pub is_gap : Class → Bool
is_gap Gap = true
is_gap UnterminatedComment = true
is_gap IllegalCharacter = true
is_gap BeyondAscii = true
is_gap Word = false
is_gap Integer = false
is_gap Double = false
is_gap Mark = false
is_gap StringLiteral = false
is_gap StringOpening = false
is_gap StringPart = false
is_gap StringClosing = false
is_gap UnterminatedString = false
is_gap InterpolationMark = false
is_gap InterpolationOpening = false
is_gap InterpolationClosing = false

-- the kind of a lexeme, from its class and its bytes; what is a gap is no lexeme, and has none of its own
abbrev pub kind_of : Class → List ℕ → Kind
kind_of Word lexeme = kind_of_word lexeme
kind_of Mark lexeme = kind_beside lexeme kind.Identifier marks
kind_of Integer lexeme = kind.Integer
kind_of Double lexeme = kind.Double
kind_of StringLiteral lexeme = kind.StringLiteral
kind_of StringOpening lexeme = kind.StringOpening
kind_of StringPart lexeme = kind.StringPart
kind_of StringClosing lexeme = kind.StringClosing
kind_of UnterminatedString lexeme = kind.UnterminatedString
kind_of InterpolationMark lexeme = kind.InterpolationMark
kind_of InterpolationOpening lexeme = kind.InterpolationOpening
kind_of InterpolationClosing lexeme = kind.InterpolationClosing
kind_of Gap lexeme = kind.Identifier
kind_of UnterminatedComment lexeme = kind.Identifier
kind_of IllegalCharacter lexeme = kind.Identifier
kind_of BeyondAscii lexeme = kind.Identifier

-- a lexeme: its class, the UTF-16 offset at which it begins, and its bytes
pub record Lexeme : Type 0 where
  pub class : Class
  pub start : ℕ
  pub bytes : List ℕ

-- the lexemes among these pieces, of which the first begins at the offset
unfoldable pub lexemes_from : (offset : ℕ) → List Spelled → List Lexeme
lexemes_from offset [] = []
lexemes_from offset (piece ∷ more) =
    if is_gap piece.0 then lexemes_from (offset + units_in piece.1) more
    else record { class = piece.0; start = offset; bytes = piece.1 } ∷ lexemes_from (offset + units_in piece.1) more

-- the lexemes of a text
abbrev pub lexemes : List ℕ → List Lexeme
lexemes text = lexemes_from 0 (pieces text)

-- these words and one more, unless it is among them
abbrev pub with_word : List (List ℕ) → List ℕ → List (List ℕ)
with_word words word = if list_any (bytes_eq word) words then words else words ++ word ∷ []

-- each word once, in the order of their first places, behind those that stand before
unfoldable pub words_behind : List (List ℕ) → List Lexeme → List (List ℕ)
words_behind words [] = words
words_behind words (lexeme ∷ more) = words_behind (with_word words lexeme.bytes) more

-- a lexeme as a token; its word has a place among these words, or comes behind them
abbrev pub token_of : List (List ℕ) → Lexeme → Token
token_of words lexeme = record {
  kind = kind_of lexeme.class lexeme.bytes;
  start = lexeme.start;
  end = lexeme.start + units_in lexeme.bytes;
  word = position_or_len (bytes_eq lexeme.bytes) words;
}

-- the tokens of lexemes, behind words that stand before
unfoldable pub tokens_behind : List (List ℕ) → List Lexeme → List Token
tokens_behind words [] = []
tokens_behind words (lexeme ∷ more) = token_of words lexeme ∷ tokens_behind (with_word words lexeme.bytes) more

-- what is wrong with these pieces, of which the first begins at the offset, in their order
unfoldable pub faults_from : (offset : ℕ) → List Spelled → List LexFault
faults_from offset [] = []
faults_from offset (piece ∷ more) = faults_of_piece piece.0 offset piece.1 ++ faults_from (offset + units_in piece.1) more

-- the words of a text, each once
abbrev pub words_of : List ℕ → List (List ℕ)
words_of text = words_behind [] (lexemes text)

-- the tokens of a text
abbrev pub tokens_of : List ℕ → List Token
tokens_of text = tokens_behind [] (lexemes text)

-- what is wrong with the pieces of a text
abbrev pub faults_of : List ℕ → List LexFault
faults_of text = faults_from 0 (pieces text)
