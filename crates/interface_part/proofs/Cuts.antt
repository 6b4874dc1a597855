-- Cutting letters among pieces, with one more piece behind them.
use Rattle.std.proofs.Common.{◌≡◌, ℕ, ◌+◌, ◌≤◌, Bool, true, false, ◌&&◌, List, [], ◌∷◌, ◌++◌, length, nat_eq, take, drop, map, refl, sym, ap, ◌∙◌, arith}
use Rattle.std.specs.Bool.{Decides, one_answer}
use Rattle.std.specs.List.{flat_map}
use Rattle.std.specs.Cmp.Lexicographic.{pointwise}
use Rattle.std.proofs.lemmas.Bool.Decides.{Decides-and, Decides-eqb}
use Rattle.std.proofs.lemmas.List.{take-append-le, drop-append-le, take_all, length-drop, length-take-le, take-append-drop}
use Rattle.std.proofs.lemmas.Slice.Eq.{slice_eq-Decides}
use Rattle.dart_tokens.specs.declared.token.Kind.{Kind}
use Rattle.interface_part.specs.declared.parts.Piece.{Piece}
use Rattle.interface_part.specs.declared.parts.Piece.TheVariants as piece
use Rattle.interface_part.specs.Parts.{Part, mark, lexeme}
use Rattle.interface_part.specs.Pieces.{cut, letters_in}
use Rattle.interface_part.specs.Same.{letters_of_part, same_parts, same_parts_Decides}

pub letters_in_more : (pieces : List Piece) (p : Piece) → letters_in (pieces ++ p ∷ []) ≡ letters_in pieces + letters_in (p ∷ [])
letters_in_more [] p = omega arith
letters_in_more (piece.Mark ∷ pieces) p = letters_in_more pieces p
letters_in_more (piece.Lexeme kind adjoins size ∷ pieces) p = let rest = letters_in_more pieces p in omega (arith, rest)

pub cut_mark : (pieces : List Piece) (letters : List ℕ) → cut (pieces ++ piece.Mark ∷ []) letters ≡ cut pieces letters ++ mark ∷ []
cut_mark [] letters = refl
cut_mark (piece.Mark ∷ pieces) letters = ap (λ (parts : List Part). mark ∷ parts) (cut_mark pieces letters)
cut_mark (piece.Lexeme kind adjoins size ∷ pieces) letters =
    ap (λ (parts : List Part). lexeme kind (take size letters) adjoins ∷ parts) (cut_mark pieces (drop size letters))

pub cut_lexeme : (pieces : List Piece) (letters word : List ℕ) (kind : Kind) (adjoins : Bool) (size : ℕ) → letters_in pieces ≡ length letters → size ≡ length word →
    cut (pieces ++ piece.Lexeme kind adjoins size ∷ []) (letters ++ word) ≡ cut pieces letters ++ lexeme kind word adjoins ∷ []
cut_lexeme [] [] word kind adjoins size full is_size =
    let all : length word ≤ size = omega (arith, is_size) in ap (λ (taken : List ℕ). lexeme kind taken adjoins ∷ []) (take_all size word all)
cut_lexeme [] (letter ∷ letters) word kind adjoins size full is_size = absurd (omega (arith, full))
cut_lexeme (piece.Mark ∷ pieces) letters word kind adjoins size full is_size =
    ap (λ (parts : List Part). mark ∷ parts) (cut_lexeme pieces letters word kind adjoins size full is_size)
cut_lexeme (piece.Lexeme other joins most ∷ pieces) letters word kind adjoins size full is_size =
    let within : most ≤ length letters = omega (arith, full) in
    let left : letters_in pieces ≡ length (drop most letters) = omega (arith, full, length-drop most letters) in
    ap (λ (taken : List ℕ). lexeme other taken joins ∷ cut (pieces ++ piece.Lexeme kind adjoins size ∷ []) (drop most (letters ++ word))) (take-append-le most letters word within)
    ∙ ap (λ (rest : List ℕ). lexeme other (take most letters) joins ∷ cut (pieces ++ piece.Lexeme kind adjoins size ∷ []) rest) (drop-append-le most letters word within)
    ∙ ap (λ (parts : List Part). lexeme other (take most letters) joins ∷ parts) (cut_lexeme pieces (drop most letters) word kind adjoins size left is_size)

-- a part without its letters
abbrev pub piece_of : Part → Piece
piece_of mark = piece.Mark
piece_of (lexeme kind letters adjoins) = piece.Lexeme kind adjoins (length letters)

-- the pieces of what is cut are those that were
pub pieces-cut : (pieces : List Piece) (letters : List ℕ) → letters_in pieces ≡ length letters → map piece_of (cut pieces letters) ≡ pieces
pieces-cut [] letters full = refl
pieces-cut (piece.Mark ∷ pieces) letters full = ap (λ (rest : List Piece). piece.Mark ∷ rest) (pieces-cut pieces letters full)
pieces-cut (piece.Lexeme kind adjoins size ∷ pieces) letters full =
    let within : size ≤ length letters = omega (arith, full) in
    let left : letters_in pieces ≡ length (drop size letters) = omega (arith, full, length-drop size letters) in
    ap (λ (n : ℕ). piece.Lexeme kind adjoins n ∷ map piece_of (cut pieces (drop size letters))) (length-take-le size letters within)
    ∙ ap (λ (rest : List Piece). piece.Lexeme kind adjoins size ∷ rest) (pieces-cut pieces (drop size letters) left)

-- and its letters are all letters
pub letters-cut : (pieces : List Piece) (letters : List ℕ) → letters_in pieces ≡ length letters → flat_map letters_of_part (cut pieces letters) ≡ letters
letters-cut [] [] full = refl
letters-cut [] (letter ∷ letters) full = absurd (omega (arith, full))
letters-cut (piece.Mark ∷ pieces) letters full = letters-cut pieces letters full
letters-cut (piece.Lexeme kind adjoins size ∷ pieces) letters full =
    let left : letters_in pieces ≡ length (drop size letters) = omega (arith, full, length-drop size letters) in
    ap (λ (rest : List ℕ). take size letters ++ rest) (letters-cut pieces (drop size letters) left) ∙ take-append-drop size letters

-- pieces and letters are the same exactly where the parts are that are cut from them
pub same_cut : (E : Piece → Piece → Bool) (F : ℕ → ℕ → Bool) → ((p q : Piece) → Decides (E p q) (p ≡ q)) → ((a b : ℕ) → Decides (F a b) (a ≡ b)) →
    (pieces others : List Piece) (letters more : List ℕ) → letters_in pieces ≡ length letters → letters_in others ≡ length more →
    (pointwise E pieces others && pointwise F letters more) ≡ same_parts (cut pieces letters) (cut others more)
same_cut E F same_piece same_letter pieces others letters more full all =
    let both = Decides-and (pointwise E pieces others) (pointwise F letters more)
    (slice_eq-Decides same_piece pieces others (pointwise E pieces others) refl)
    (slice_eq-Decides same_letter letters more (pointwise F letters more) refl) in
    one_answer (pointwise E pieces others && pointwise F letters more) (same_parts (cut pieces letters) (cut others more)) (
      λ e. λ i. cut ((both.0 e).0 i) ((both.0 e).1 i),
      λ e. both.1 (
        sym (pieces-cut pieces letters full) ∙ ap (λ (parts : List Part). map piece_of parts) e ∙ pieces-cut others more all,
        sym (letters-cut pieces letters full) ∙ ap (λ (parts : List Part). flat_map letters_of_part parts) e ∙ letters-cut others more all,
      ),
    )
    (same_parts_Decides (cut pieces letters) (cut others more))

-- the answers of a comparison of pieces, and then of letters
pub same_then : (E : Piece → Piece → Bool) (F : ℕ → ℕ → Bool) → ((p q : Piece) → Decides (E p q) (p ≡ q)) → ((a b : ℕ) → Decides (F a b) (a ≡ b)) →
    (pieces others : List Piece) (letters more : List ℕ) (first answer : Bool) → letters_in pieces ≡ length letters → letters_in others ≡ length more →
    first ≡ pointwise E pieces others → first ≡ true → answer ≡ pointwise F letters more → answer ≡ same_parts (cut pieces letters) (cut others more)
same_then E F same_piece same_letter pieces others letters more first answer full all is_first is_true is_answer =
    is_answer ∙ ap (λ (b : Bool). b && pointwise F letters more) (sym is_true ∙ is_first) ∙ same_cut E F same_piece same_letter pieces others letters more full all

pub same_else : (E : Piece → Piece → Bool) → ((p q : Piece) → Decides (E p q) (p ≡ q)) →
    (pieces others : List Piece) (letters more : List ℕ) (first : Bool) → letters_in pieces ≡ length letters → letters_in others ≡ length more →
    first ≡ pointwise E pieces others → first ≡ false → first ≡ same_parts (cut pieces letters) (cut others more)
same_else E same_piece pieces others letters more first full all is_first is_false =
    is_false ∙ ap (λ (b : Bool). b && pointwise nat_eq letters more) (sym is_false ∙ is_first)
    ∙ same_cut E nat_eq same_piece Decides-eqb pieces others letters more full all
