-- A lexeme is the longest at its place.
use Rattle.std.proofs.Common.{ℕ, ◌≤◌, List, length, get_or, Option, Some, None, refl, arith}
use Rattle.std.proofs.lemmas.Bool.Decides.{nat_tests}
use Rattle.std.specs.Option.{option_map_or}
use Rattle.std.specs.Prelude.{All, IsSomeAnd, IsTrue}
use Rattle.dart_tokens.specs.Marks.{marks, first_mark}
use Rattle.dart_tokens.specs.declared.token.Kind.{Kind}
use Rattle.dart_scan.specs.declared.piece.Class.TheVariants.{Word, Integer, Double, Mark, BeyondAscii, IllegalCharacter}
use Rattle.dart_scan.specs.declared.piece.Piece.{Piece}
use Rattle.dart_scan.specs.Characters.{is_beyond_ascii}
use Rattle.dart_scan.specs.Lexemes.{begins, run, word_size, integer_size, double_size, mark_size}
use Rattle.dart_scan.specs.Pieces.{longer, lexeme_at}
use Rattle.dart_tokens.specs.MarkLemmas.{first_longest}

longer-first : (a b : Piece) → a.size ≤ (longer a b).size
longer-first a b = grind (arith, nat_tests)

longer-second : (a b : Piece) → b.size ≤ (longer a b).size
longer-second a b = grind (arith, nat_tests)

abbrev rest_of : List ℕ → Piece
rest_of text = longer (record { class = BeyondAscii; size = run is_beyond_ascii text }) (record { class = IllegalCharacter; size = 1 })

abbrev with_mark : List ℕ → Piece
with_mark text = longer (record { class = Mark; size = mark_size text }) (rest_of text)

abbrev with_double : List ℕ → Piece
with_double text = longer (record { class = Double; size = double_size text }) (with_mark text)

abbrev with_integer : List ℕ → Piece
with_integer text = longer (record { class = Integer; size = integer_size text }) (with_double text)

pub word-longest : (text : List ℕ) → word_size text ≤ (lexeme_at text).size
word-longest text = longer-first (record { class = Word; size = word_size text }) (with_integer text)

behind_word : (text : List ℕ) → (with_integer text).size ≤ (lexeme_at text).size
behind_word text = longer-second (record { class = Word; size = word_size text }) (with_integer text)

pub integer-longest : (text : List ℕ) → integer_size text ≤ (lexeme_at text).size
integer-longest text = omega (arith, behind_word text, longer-first (record { class = Integer; size = integer_size text }) (with_double text))

behind_integer : (text : List ℕ) → (with_double text).size ≤ (lexeme_at text).size
behind_integer text = omega (arith, behind_word text, longer-second (record { class = Integer; size = integer_size text }) (with_double text))

pub double-longest : (text : List ℕ) → double_size text ≤ (lexeme_at text).size
double-longest text = omega (arith, behind_integer text, longer-first (record { class = Double; size = double_size text }) (with_mark text))

pub mark-longest : (text : List ℕ) → mark_size text ≤ (lexeme_at text).size
mark-longest text =
    omega (arith, behind_integer text, longer-second (record { class = Double; size = double_size text }) (with_mark text), longer-first (record { class = Mark; size = mark_size text }) (rest_of text))

-- Of the marks that a text begins with, the longest is taken.

longest-size : (size : ℕ) (found : Option (Kind × ℕ)) → IsSomeAnd found (λ mark. size ≤ mark.1) → size ≤ option_map_or (λ mark. mark.1) found 0
longest-size size None h = absurd h
longest-size size (Some mark) h = h

pub mark-of-marks : (text : List ℕ) → All (λ mark. IsTrue (begins text mark.0) → length mark.0 ≤ mark_size text) marks
mark-of-marks text k d h b = longest-size (length (get_or marks k d).0) (first_mark text) (first_longest 3 marks text refl k d h b)
