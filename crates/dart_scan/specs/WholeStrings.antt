-- Whole strings, by their grammar.
use Rattle.std.specs.Prelude.{ℕ, ◌≡◌, ◌+◌, ◌==◌, true, false, ◌&&◌, List, [], ◌∷◌, ◌++◌, length, take, drop, codes}
use Rattle.dart_scan.specs.declared.piece.Class.TheVariants.{Word, UnterminatedString, InterpolationMark, InterpolationOpening, InterpolationClosing}
use Rattle.dart_scan.specs.Lexemes.{begins}
use Rattle.dart_scan.specs.Strings.{Form, opening_of, within_reach, name_size, begins_name, ends_piece, begins_escape}
use Rattle.dart_scan.specs.Pieces.{Spelled, Read, next_at, last_class, part_before, braces_behind, pieces}
use Rattle.dart_scan.specs.Suspended.{enough, pieces_behind}

-- Bytes of a string before others: none begins the quotes of the string or an interpolation, unless a backslash that begins an escape stands before it.
pub data IsPlain (form : Form) (behind : List ℕ) : List ℕ → Type 0 where
  no_more : IsPlain form behind []
  byte : (first : ℕ) {plain : List ℕ} → ends_piece form (first ∷ (plain ++ behind)) ≡ false → begins_escape form first ≡ false → IsPlain form behind plain → IsPlain form behind (first ∷ plain)
  escaped : (first next : ℕ) {plain : List ℕ} → ends_piece form (first ∷ next ∷ (plain ++ behind)) ≡ false → begins_escape form first ≡ true → IsPlain form behind plain → IsPlain form behind (first ∷ next ∷ plain)

-- What an interpolation holds behind its `${`, where so many braces are open in it: the next pieces of the text, one after another, up to the `}` that closes none of these braces; with the pieces, and with what stands behind them.
pub data IsExpression : (braces : ℕ) → (text : List ℕ) → List Spelled → (rest : List ℕ) → Type 0 where
  closing : {rest : List ℕ} → IsExpression 0 (125 ∷ rest) ((InterpolationClosing, codes "}") ∷ []) rest
  next : {braces first : ℕ} {text : List ℕ} {pieces : List Spelled} {rest : List ℕ} → (begins (first ∷ text) (codes "}") && braces == 0) ≡ false
      → IsExpression (braces_behind braces (first ∷ text)) (next_at enough false (first ∷ text)).rest pieces rest
      → IsExpression braces (first ∷ text) ((next_at enough false (first ∷ text)).pieces ++ pieces) rest

mutual
  -- How a string goes on, with a piece of which these bytes stand before the text: plain bytes and its quotes, or plain bytes and an interpolation. With its pieces, and with what stands behind it.
  pub data GoesOn (form : Form) : (begun text : List ℕ) → List Spelled → (rest : List ℕ) → Type 0 where
    ends : (begun : List ℕ) {plain rest : List ℕ} → IsPlain form (form.quotes ++ rest) plain → GoesOn form begun (plain ++ (form.quotes ++ rest)) ((last_class begun, begun ++ plain ++ form.quotes) ∷ []) rest
    interpolates : (begun : List ℕ) {plain behind : List ℕ} {pieces : List Spelled} {rest : List ℕ} → IsPlain form behind plain → begins behind form.quotes ≡ false → form.raw ≡ false
        → Interpolates form behind pieces rest → GoesOn form begun (plain ++ behind) (part_before begun plain ++ pieces) rest

  -- How a string goes on with an interpolation: by name, or of an expression; and then the rest of the string.
  pub data Interpolates (form : Form) : (text : List ℕ) → List Spelled → (rest : List ℕ) → Type 0 where
    by_name : {text : List ℕ} {pieces : List Spelled} {rest : List ℕ} → begins_name text ≡ true → GoesOn form [] (drop (1 + name_size (drop 1 text)) text) pieces rest
        → Interpolates form text ((InterpolationMark, codes "$") ∷ (Word, take (name_size (drop 1 text)) (drop 1 text)) ∷ pieces) rest
    by_expression : {text : List ℕ} {inner : List Spelled} {behind : List ℕ} {pieces : List Spelled} {rest : List ℕ} → IsExpression 0 text inner behind → GoesOn form [] behind pieces rest
        → Interpolates form (36 ∷ 123 ∷ text) ((InterpolationOpening, codes "${") ∷ (inner ++ pieces)) rest

-- A whole string stands first in a text, within its reach: its pieces, and what stands behind it.
pub record IsString (form : Form) (text : List ℕ) (read : Read) : Type 0 where
  pub inside : List ℕ
  pub goes : GoesOn form (opening_of form) (drop (length (opening_of form)) (within_reach form text)) read.pieces inside
  pub rest : read.rest ≡ inside ++ drop (length (within_reach form text)) text

-- all that a string of the form may reach, as one piece
abbrev pub unterminated : Form → List ℕ → Read
unterminated form text = record { pieces = (UnterminatedString, within_reach form text) ∷ []; rest = drop (length (within_reach form text)) text }

-- the pieces of a text are these and those of the rest, whether others stand before the text or not
pub record BeginsWith (text : List ℕ) (read : Read) : Type 0 where
  pub first : pieces text ≡ read.pieces ++ pieces_behind read.rest
  pub later : pieces_behind text ≡ read.pieces ++ pieces_behind read.rest
