-- A piece has a byte at least.
use Rattle.std.proofs.Common.{◌≡◌, ℕ, ◌+◌, ◌≤◌, ◌&&◌, Bool, true, false, List, [], ◌∷◌, length, nat_lt, codes, if◌then◌else◌, refl, arith}
use Rattle.std.proofs.lemmas.Bool.Decides.{nat_tests}
use Rattle.std.specs.Option.{option_map_or}
use Rattle.std.specs.Prelude.{Option, Some, None, option_map}
use Rattle.dart_scan.specs.declared.piece.Class.TheVariants.{Gap, UnterminatedComment, Word, Integer, Double, Mark, BeyondAscii, IllegalCharacter}
use Rattle.dart_scan.specs.declared.piece.Piece.{Piece}
use Rattle.dart_scan.specs.Characters.{is_blank, is_beyond_ascii}
use Rattle.dart_scan.specs.Lexemes.{run, begins, word_size, integer_size, double_size, mark_size}
use Rattle.dart_scan.specs.Pieces.{longer, comment_piece, lexeme_at, piece_at}

longer-least : (a b : Piece) → 1 ≤ b.size → 1 ≤ (longer a b).size
longer-least a b h = grind (arith, nat_tests)

lexeme-least : (text : List ℕ) → 1 ≤ (lexeme_at text).size
lexeme-least text =
    longer-least (record { class = Word; size = word_size text }) _
    (longer-least (record { class = Integer; size = integer_size text }) _
    (longer-least (record { class = Double; size = double_size text }) _
    (longer-least (record { class = Mark; size = mark_size text }) _
    (longer-least (record { class = BeyondAscii; size = run is_beyond_ascii text }) (record { class = IllegalCharacter; size = 1 }) (omega arith)))))

comment-least : (text : List ℕ) (o : Option ℕ) → 1 ≤ length text → 1 ≤ (option_map_or {U = Piece} (λ size. record { class = Gap; size = size }) (option_map (λ n. 2 + n) o) (record { class = UnterminatedComment; size = length text })).size
comment-least text None h = h
comment-least text (Some n) h = omega arith

choice-least : (b : Bool) (p q : Piece) → (b ≡ true → 1 ≤ p.size) → 1 ≤ q.size → 1 ≤ (if b then p else q).size
choice-least true p q h k = h refl
choice-least false p q h k = k

pub piece_least : (first : Bool) (text : List ℕ) → 1 ≤ length text → 1 ≤ (piece_at first text).size
piece_least first text h =
    choice-least (first && begins text (239 ∷ 187 ∷ 191 ∷ [])) _ _ (λ _. omega arith)
    (choice-least (nat_lt 0 (run is_blank text)) _ _ (λ e. grind (arith, nat_tests, e))
    (choice-least (begins text (codes "//")) _ _ (λ _. omega arith)
    (choice-least (begins text (codes "/*")) (comment_piece text) (lexeme_at text) (λ _. comment-least text _ h) (lexeme-least text))))
