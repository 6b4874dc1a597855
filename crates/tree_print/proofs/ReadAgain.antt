-- A text that is printed of the tokens of a text has the same tokens.
use Rattle.std.proofs.Common.{◌≡◌, ℕ, zero, suc, ◌+◌, ◌≤◌, Bool, true, false, List, [], ◌∷◌, ◌++◌, length, take, drop, nat_lt, if◌then◌else◌, Option, Some, None, refl, sym, ap, subst, ◌∙◌, arith, length-append}
use Rattle.std.specs.Prelude.{All}
use Rattle.std.specs.Option.{option_map_or}
use Rattle.std.specs.Str.{IsUtf8}
use Rattle.std.proofs.lemmas.Bool.{ltb-false}
use Rattle.dart_scan.specs.Characters.{is_beyond_ascii}
use Rattle.dart_scan.specs.Lexemes.{begins, run}
use Rattle.dart_scan.specs.Strings.{string_form}
use Rattle.dart_scan.specs.declared.piece.Class.{Class}
use Rattle.dart_scan.specs.declared.piece.Class.TheVariants.{Gap, IllegalCharacter, BeyondAscii, Word, Integer, Double, Mark}
use Rattle.dart_scan.specs.declared.piece.Piece.{Piece}
use Rattle.dart_scan.specs.Pieces.{Spelled, Read, longer, piece_at, read_piece, string_at, next_at, pieces_within, pieces}
use Rattle.dart_scan.specs.Scanned.{is_gap}
use Rattle.dart_scan.specs.Suspended.{enough, pieces_behind}
use Rattle.dart_scan.specs.FormLemmas.{begins-split}
use Rattle.dart_scan.specs.StepLemmas.{bytes_of, pieces-cover, pieces-some, IsSome}
use Rattle.dart_scan.specs.ResumeLemmas.{behind-step, first-step}
use Rattle.tree_print.specs.Seen.{printed_again, SeenAlike}
use Rattle.tree_print.proofs.Relaid.{between, relaid}
use Rattle.tree_print.proofs.Expressions.{next-piece}
use Rattle.tree_print.proofs.Top.{cut-again}
use Rattle.tree_print.proofs.Tokens.{printed-is, seen-again}

-- a byte order mark
abbrev mark : List ℕ
mark = 239 ∷ 187 ∷ 191 ∷ []

-- a gap that is longer than what isn't there
longer-gap : (a b : Piece) → a.size ≡ 0 → (1 ≤ b.size) × (is_gap b.class ≡ true) → (1 ≤ (longer a b).size) × (is_gap (longer a b).class ≡ true)
longer-gap a b none h = of (nat_lt a.size b.size) refl
  where
    of : (s : Bool) → nat_lt a.size b.size ≡ s → (1 ≤ (if s then b else a).size) × (is_gap (if s then b else a).class ≡ true)
    of true e = h
    of false e = absurd (omega (arith, ltb-false a.size b.size e, none, h.0))

abbrev illegal : Piece
illegal = record { class = IllegalCharacter; size = 1 }

abbrev beyond_piece : ℕ → Piece
beyond_piece n = record { class = BeyondAscii; size = n }

-- the first piece of a text that isn't the first of all is no lexeme where a byte order mark stands
mark-gap : (text : List ℕ) → is_gap (piece_at false (239 ∷ text)).class ≡ true
mark-gap text = (longer-gap (record { class = Word; size = 0 }) _ refl (longer-gap (record { class = Integer; size = 0 }) _ refl (longer-gap (record { class = Double; size = 0 }) _ refl (longer-gap (record { class = Mark; size = 0 }) _ refl (beyond (run is_beyond_ascii (239 ∷ text))))))).1
  where
    beyond : (n : ℕ) → (1 ≤ (longer (beyond_piece n) illegal).size) × (is_gap (longer (beyond_piece n) illegal).class ≡ true)
    beyond n = of (nat_lt n 1) refl
      where
        of : (s : Bool) → nat_lt n 1 ≡ s → (1 ≤ (if s then illegal else beyond_piece n).size) × (is_gap (if s then illegal else beyond_piece n).class ≡ true)
        of true e = (omega arith, refl)
        of false e = (omega (arith, ltb-false n 1 e), refl)

-- where no byte order mark stands first, it doesn't matter whether others stand before the text
unmarked : (text : List ℕ) → begins text mark ≡ false → pieces text ≡ pieces_behind text
unfolding pieces pieces_within
unmarked [] e = refl
unmarked (first ∷ tail) e =
    first-step true first tail ∙ ap (λ (r : Read). r.pieces ++ pieces_behind r.rest) same ∙ sym (behind-step first tail)
  where
    piece : piece_at true (first ∷ tail) ≡ piece_at false (first ∷ tail)
    piece = ap (λ (s : Bool). if s then record { class = Gap; size = 3 } else piece_at false (first ∷ tail)) e

    same : next_at enough true (first ∷ tail) ≡ next_at enough false (first ∷ tail)
    same = ap (λ (p : Piece). option_map_or (λ form. string_at enough form (first ∷ tail)) (string_form (first ∷ tail)) (record { pieces = (p.class, take p.size (first ∷ tail)) ∷ []; rest = drop p.size (first ∷ tail) })) piece

-- where one stands first, it is a gap
marked : (tail : List ℕ) → pieces (239 ∷ 187 ∷ 191 ∷ tail) ≡ (Gap, mark) ∷ pieces_behind tail
unfolding pieces
marked tail = first-step true 239 (187 ∷ 191 ∷ tail)

-- pieces of which the first is no gap, if there is one
abbrev NoGap : List Spelled → Type 0
NoGap [] = Unit {0}
NoGap (p ∷ ps) = is_gap p.0 ≡ false

relaid-no-gap : (wide : Bool) (ps : List Spelled) → NoGap (relaid None wide ps)
relaid-no-gap wide [] = tt
relaid-no-gap wide (p ∷ ps) = of (is_gap p.0) refl (relaid-no-gap true ps)
  where
    of : (s : Bool) → is_gap p.0 ≡ s → NoGap (relaid None true ps) → NoGap (if s then relaid None true ps else between None wide ++ p ∷ relaid (Some p.0) false ps)
    of true e h = h
    of false e h = e

-- a text whose first piece is no gap begins with no byte order mark
not-marked : (text : List ℕ) → NoGap (pieces_behind text) → begins text mark ≡ false
not-marked text h = of (begins text mark) refl
  where
    of : (s : Bool) → begins text mark ≡ s → s ≡ false
    of false e = refl
    of true e =
        let tail : List ℕ = 187 ∷ 191 ∷ drop 3 text in
        let split : text ≡ 239 ∷ tail = begins-split mark text e in
        let is : pieces_behind (239 ∷ tail) ≡ (read_piece false (239 ∷ tail)).pieces ++ pieces_behind (read_piece false (239 ∷ tail)).rest =
        behind-step 239 tail ∙ ap (λ (r : Read). r.pieces ++ pieces_behind r.rest) (next-piece (239 ∷ tail) refl) in
        let lexeme : is_gap (piece_at false (239 ∷ tail)).class ≡ false = subst NoGap is (subst (λ (t : List ℕ). NoGap (pieces_behind t)) split h) in
        let gap = mark-gap tail in
        absurd (cc)

-- pieces that are laid anew are those of their text
first-again : (text : List ℕ) (wide : Bool) → pieces (bytes_of (relaid None wide (pieces_behind text))) ≡ relaid None wide (pieces_behind text)
first-again text wide =
    let cut = cut-again text None wide in
    unmarked (bytes_of (relaid None wide (pieces_behind text))) (not-marked (bytes_of (relaid None wide (pieces_behind text))) (subst NoGap (sym cut) (relaid-no-gap wide (pieces_behind text)))) ∙ cut

pieces-again : (text : List ℕ) → pieces (bytes_of (relaid None false (pieces text))) ≡ relaid None false (pieces text)
pieces-again text = of (begins text mark) refl
  where
    Again : List Spelled → Type 0
    Again ps = pieces (bytes_of (relaid None false ps)) ≡ relaid None false ps

    of : (s : Bool) → begins text mark ≡ s → Again (pieces text)
    of false e = subst Again (sym (unmarked text e)) (first-again text false)
    of true e =
        subst (λ (t : List ℕ). Again (pieces t)) (sym (begins-split mark text e))
        (subst Again (sym (marked (drop 3 text))) (first-again (drop 3 text) true))

-- The tokens of the text that is printed are seen as those of the text.
pub read-again : (text : List ℕ) → IsUtf8 text → SeenAlike (printed_again text) text
read-again text utf8 = seen-again text utf8 (ap pieces (printed-is text utf8) ∙ pieces-again text)

-- Pieces that are laid anew are no longer.

short-between : (before : Option Class) (wide : Bool) (ps : List Spelled) → length (bytes_of (between before wide ++ ps)) ≤ (if wide then 1 else 0) + length (bytes_of ps)
short-between None true ps = omega arith
short-between None false ps = omega arith
short-between (Some class) true ps = omega arith
short-between (Some class) false ps = omega arith

short-laid : (before : Option Class) (wide : Bool) (ps : List Spelled) → All IsSome ps → length (bytes_of (relaid before wide ps)) ≤ (if wide then 1 else 0) + length (bytes_of ps)
short-laid before wide [] some = omega arith
short-laid before wide (p ∷ ps) some = of (is_gap p.0) (short-laid before true ps others) (short-laid (Some p.0) false ps others)
  where
    others : All IsSome ps
    others = λ k d h. some (suc k) d (omega (arith, h))

    of : (s : Bool) → length (bytes_of (relaid before true ps)) ≤ 1 + length (bytes_of ps) → length (bytes_of (relaid (Some p.0) false ps)) ≤ 0 + length (bytes_of ps)
        → length (bytes_of (if s then relaid before true ps else between before wide ++ p ∷ relaid (Some p.0) false ps)) ≤ (if wide then 1 else 0) + length (bytes_of (p ∷ ps))
    of true h k = omega (arith, h, some zero p (omega arith), length-append p.1 (bytes_of ps))
    of false h k = omega (arith, k, short-between before wide (p ∷ relaid (Some p.0) false ps), length-append p.1 (bytes_of (relaid (Some p.0) false ps)), length-append p.1 (bytes_of ps))

-- The text that is printed is no longer than the text.
pub short-again : (text : List ℕ) → IsUtf8 text → length (printed_again text) ≤ length text
unfolding pieces
short-again text utf8 =
    let cover = ap length (pieces-cover (length text) true text (omega arith)) in
    omega (arith, ap length (printed-is text utf8), short-laid None false (pieces text) (pieces-some (length text) true text), cover)
