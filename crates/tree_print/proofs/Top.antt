-- The pieces of a text are cut again where they are laid anew.
use Rattle.std.proofs.Common.{◌≡◌, ℕ, zero, suc, ◌≤◌, Bool, true, false, List, [], ◌∷◌, ◌++◌, length, take, drop, if◌then◌else◌, Option, Some, None, refl, sym, ap, subst, ◌∙◌, arith, append_assoc}
use Rattle.std.proofs.Math.Logic.{⊎_elim}
use Rattle.dart_scan.specs.Characters.{is_blank, is_within_line}
use Rattle.dart_scan.specs.Lexemes.{run}
use Rattle.dart_scan.specs.Strings.{string_form}
use Rattle.dart_scan.specs.declared.piece.Class.{Class}
use Rattle.dart_scan.specs.Pieces.{Spelled, Read, piece_at, read_piece, next_at, pieces_within}
use Rattle.dart_scan.specs.Scanned.{is_gap}
use Rattle.dart_scan.specs.Suspended.{enough, pieces_behind}
use Rattle.dart_scan.specs.StepLemmas.{bytes_of, bytes_of-append, pieces-cover, Fair, next-fair}
use Rattle.dart_scan.specs.ResumeLemmas.{enough-fair, behind-step}
use Rattle.tree_print.proofs.Alike.{Alike, ends, blank, alike-behind, alike-less, run-none}
use Rattle.tree_print.proofs.Relaid.{separator_byte, separator, between, relaid, relaid-gap}
use Rattle.tree_print.proofs.Ended.{ended-closes, separator-blank, laid, relaid-starts}
use Rattle.tree_print.proofs.Next.{Stops, Next}
use Rattle.tree_print.proofs.Expressions.{white-next, line-ends, front-same, next-piece, gap-or-lexeme, law}

wide-any : (text : List ℕ) (class : Class) (ps : List Spelled) → Alike 0 text (bytes_of (relaid (Some class) true ps))
wide-any text class [] = ends
wide-any text class (p ∷ ps) = of (is_gap p.0) (wide-any text class ps)
  where
    of : (s : Bool) → Alike 0 text (bytes_of (relaid (Some class) true ps)) → Alike 0 text (bytes_of (if s then relaid (Some class) true ps else between (Some class) true ++ p ∷ relaid (Some p.0) false ps))
    of true h = h
    of false h = blank (separator_byte class) (bytes_of (p ∷ relaid (Some p.0) false ps)) (separator-blank class)

all-alike : (ps : List Spelled) (class : Class) → Alike 0 (bytes_of ps) (bytes_of (relaid (Some class) false ps))
all-alike [] class = ends
all-alike (p ∷ ps) class = of (is_gap p.0) (all-alike ps p.0)
  where
    of : (s : Bool) → Alike 0 (bytes_of ps) (bytes_of (relaid (Some p.0) false ps))
        → Alike 0 (bytes_of (p ∷ ps)) (bytes_of (if s then relaid (Some class) true ps else between (Some class) false ++ p ∷ relaid (Some p.0) false ps))
    of true h = wide-any (bytes_of (p ∷ ps)) class ps
    of false h = alike-less 0 (omega arith) (alike-behind p.1 h)

wide-line : (class : Class) (ps : List Spelled) → separator_byte class ≡ 10 → run is_within_line (bytes_of (relaid (Some class) true ps)) ≡ 0
wide-line class [] feed = refl
wide-line class (p ∷ ps) feed = of (is_gap p.0) (wide-line class ps feed)
  where
    of : (s : Bool) → run is_within_line (bytes_of (relaid (Some class) true ps)) ≡ 0 → run is_within_line (bytes_of (if s then relaid (Some class) true ps else between (Some class) true ++ p ∷ relaid (Some p.0) false ps)) ≡ 0
    of true h = h
    of false h = run-none is_within_line (separator_byte class) (bytes_of (p ∷ relaid (Some p.0) false ps)) (ap is_within_line feed)

-- where white space stands first, a gap does
white-first : (first : ℕ) (tail : List ℕ) (class : Class) → is_blank first ≡ true → relaid (Some class) false (pieces_behind (first ∷ tail)) ≡ relaid (Some class) true (pieces_behind (first ∷ tail))
white-first first tail class b = ⊎_elim
    (λ (g : (string_form (first ∷ tail) ≡ None) × (is_gap (piece_at false (first ∷ tail)).class ≡ true)).
    let size : ℕ = (piece_at false (first ∷ tail)).size in
    let piece : Spelled = ((piece_at false (first ∷ tail)).class, take size (first ∷ tail)) in
    let is : pieces_behind (first ∷ tail) ≡ piece ∷ pieces_behind (drop size (first ∷ tail)) = behind-step first tail ∙ ap (λ (r : Read). r.pieces ++ pieces_behind r.rest) (next-piece (first ∷ tail) g.0) in
    subst (λ (ps : List Spelled). relaid (Some class) false ps ≡ relaid (Some class) true ps) (sym is)
    (relaid-gap (Some class) false piece (pieces_behind (drop size (first ∷ tail))) g.1 ∙ sym (relaid-gap (Some class) true piece (pieces_behind (drop size (first ∷ tail))) g.1)))
    (λ (n : Next first tail (next_at enough false (first ∷ tail))). absurd (wrong n.solid))
    (gap-or-lexeme (length (first ∷ tail)) (law (length (first ∷ tail))) first tail (omega arith))
  where
    wrong : is_blank first ≡ false → ⊥
    wrong s = cc

again-behind : (n : ℕ) (text : List ℕ) → length text ≤ n → (before : Option Class) (wide : Bool) → pieces_behind (bytes_of (relaid before wide (pieces_behind text))) ≡ relaid before wide (pieces_behind text)
unfolding pieces_within
again-behind zero [] less before wide = refl
again-behind zero (first ∷ tail) less before wide = absurd (omega (arith, less))
again-behind (suc n) [] less before wide = refl
again-behind (suc n) (first ∷ tail) less before wide = subst (λ (ps : List Spelled). Again ps) (sym (behind-step first tail)) (⊎_elim
    (λ (g : (string_form (first ∷ tail) ≡ None) × (is_gap (piece_at false (first ∷ tail)).class ≡ true)). gap g.0 g.1 (again-behind n))
    (λ (x : Next first tail (next_at enough false (first ∷ tail))). lexeme (next_at enough false (first ∷ tail)) x refl (next-fair enough enough-fair false first tail) (again-behind n))
    (gap-or-lexeme (length (first ∷ tail)) (law (length (first ∷ tail))) first tail (omega arith)))
  where
    Again : List Spelled → Type 0
    Again ps = pieces_behind (bytes_of (relaid before wide ps)) ≡ relaid before wide ps

    Later : Type 0
    Later = (text : List ℕ) → length text ≤ n → (before : Option Class) (wide : Bool) → pieces_behind (bytes_of (relaid before wide (pieces_behind text))) ≡ relaid before wide (pieces_behind text)

    gap : string_form (first ∷ tail) ≡ None → is_gap (piece_at false (first ∷ tail)).class ≡ true → Later → Again ((next_at enough false (first ∷ tail)).pieces ++ pieces_behind (next_at enough false (first ∷ tail)).rest)
    gap none g later =
        let size : ℕ = (piece_at false (first ∷ tail)).size in
        let left : List ℕ = drop size (first ∷ tail) in
        let is : next_at enough false (first ∷ tail) ≡ read_piece false (first ∷ tail) = next-piece (first ∷ tail) none in
        let fair : Fair (first ∷ tail) (length tail) (next_at enough false (first ∷ tail)) = next-fair enough enough-fair false first tail in
        let short : length left ≤ n = let same = ap (λ (r : Read). length r.rest) is in omega (arith, less, fair.shrinks, same) in
        subst (λ (r : Read). Again (r.pieces ++ pieces_behind r.rest)) (sym is)
        (subst (λ (ps : List Spelled). pieces_behind (bytes_of ps) ≡ ps) (sym (relaid-gap before wide ((piece_at false (first ∷ tail)).class, take size (first ∷ tail)) (pieces_behind left) g)) (later left short before true))

    lexeme : (next : Read) → Next first tail next → next_at enough false (first ∷ tail) ≡ next → Fair (first ∷ tail) (length tail) next → Later → Again (next.pieces ++ pieces_behind next.rest)
    lexeme next x is fair later =
        let class : Class = x.class in
        let new : List Spelled = relaid (Some class) false (pieces_behind next.rest) in
        let after : List ℕ = bytes_of new in
        let cover : bytes_of (pieces_behind next.rest) ≡ next.rest = pieces-cover (length next.rest) false next.rest (omega arith) in
        let alike : Alike 0 next.rest after = subst (λ (t : List ℕ). Alike 0 t after) cover (all-alike (pieces_behind next.rest) class) in
        let stops : Stops class next.rest after = record { line = line-stops class next.rest; nothing = λ e. ap (λ (t : List ℕ). bytes_of (relaid (Some class) false (pieces_behind t))) e } in
        let front = front-same next.pieces next.rest after first tail x.starts fair.some fair.cover in
        let bytes : bytes_of (laid next.pieces ++ new) ≡ first ∷ front.0 = bytes_of-append (laid next.pieces) new ∙ front.1 in
        let here : pieces_behind (first ∷ front.0) ≡ laid next.pieces ++ new =
        behind-step first front.0 ∙ ap (λ (r : Read). r.pieces ++ pieces_behind r.rest) (ap (next_at enough false) (sym front.1) ∙ x.again after alike stops)
        ∙ ap (λ (ps : List Spelled). laid next.pieces ++ ps) (later next.rest (omega (arith, less, fair.shrinks)) (Some class) false) in
        let same : relaid before wide (next.pieces ++ pieces_behind next.rest) ≡ between before wide ++ (laid next.pieces ++ new) =
        ended-closes x.ended class refl before wide (pieces_behind next.rest) ∙ ap (λ (ps : List Spelled). ps ++ new) (relaid-starts next.pieces x.starts before wide) ∙ append_assoc (between before wide) (laid next.pieces) new in
        subst (λ (ps : List Spelled). pieces_behind (bytes_of ps) ≡ ps) (sym same) (behind-between before wide (laid next.pieces ++ new) front.0 x.solid bytes here)
      where
        line-stops : (class : Class) (text : List ℕ) → separator_byte class ≡ 10 → run is_within_line text ≡ 0 → run is_within_line (bytes_of (relaid (Some class) false (pieces_behind text))) ≡ 0
        line-stops class [] feed h = refl
        line-stops class (b ∷ text) feed h = ap (λ (ps : List Spelled). run is_within_line (bytes_of ps)) (white-first b text class (line-ends b text h)) ∙ wide-line class (pieces_behind (b ∷ text)) feed

        behind-between : (before : Option Class) (wide : Bool) (ps : List Spelled) (more : List ℕ) → is_blank first ≡ false → bytes_of ps ≡ first ∷ more → pieces_behind (first ∷ more) ≡ ps
            → pieces_behind (bytes_of (between before wide ++ ps)) ≡ between before wide ++ ps
        behind-between None wide ps more solid bytes here = ap pieces_behind bytes ∙ here
        behind-between (Some class) false ps more solid bytes here = ap pieces_behind bytes ∙ here
        behind-between (Some class) true ps more solid bytes here =
            ap (λ (bs : List ℕ). pieces_behind (separator_byte class ∷ bs)) bytes
            ∙ behind-step (separator_byte class) (first ∷ more) ∙ ap (λ (r : Read). r.pieces ++ pieces_behind r.rest) (white-next (separator_byte class) first more (separator-blank class) solid)
            ∙ ap (λ (qs : List Spelled). separator class ∷ qs) here

-- Pieces that are laid anew are cut again.
pub cut-again : (text : List ℕ) (before : Option Class) (wide : Bool) → pieces_behind (bytes_of (relaid before wide (pieces_behind text))) ≡ relaid before wide (pieces_behind text)
cut-again text before wide = again-behind (length text) text (omega arith) before wide
