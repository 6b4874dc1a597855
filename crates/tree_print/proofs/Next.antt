-- The next pieces of a text are read again where it goes on alike behind them.
use Rattle.std.proofs.Common.{◌≡◌, ◌⊎◌, inl, ℕ, zero, suc, ◌≤◌, ◌==◌, Bool, true, false, List, [], ◌∷◌, ◌++◌, length, take, drop, nat_lt, if◌then◌else◌, Some, None, refl, sym, ap, subst, ◌∙◌, arith, length-take}
use Rattle.std.specs.Prelude.{take_while}
use Rattle.std.specs.List.{list_all}
use Rattle.std.proofs.lemmas.Bool.{and_from}
use Rattle.std.proofs.lemmas.List.{take-append-drop, drop_at, take_at, drop_all}
use Rattle.std.proofs.lemmas.List.Sums.{take_while-cons}
use Rattle.dart_scan.specs.Characters.{is_blank, is_within_line, is_beyond_ascii}
use Rattle.dart_scan.specs.Lexemes.{run, word_size, integer_size, double_size, mark_size}
use Rattle.dart_scan.specs.Strings.{Form, string_form, within_reach}
use Rattle.dart_scan.specs.declared.piece.Class.{Class}
use Rattle.dart_scan.specs.declared.piece.Class.TheVariants.{StringClosing, IllegalCharacter, BeyondAscii, Word, Integer, Double, Mark}
use Rattle.dart_scan.specs.declared.piece.Piece.{Piece}
use Rattle.dart_scan.specs.Pieces.{Spelled, Read, longer, lexeme_at, piece_at, read_piece, next_at}
use Rattle.dart_scan.specs.Scanned.{is_gap}
use Rattle.dart_scan.specs.Suspended.{enough}
use Rattle.dart_scan.specs.FormLemmas.{front-split, front-past, append-nothing}
use Rattle.dart_scan.specs.StepLemmas.{bytes_of}
use Rattle.dart_scan.specs.PieceLemmas.{piece_least}
use Rattle.dart_scan.specs.LongestLemmas.{none-begins}
use Rattle.tree_print.proofs.Alike.{Alike, ends, blank, same, alike-behind}
use Rattle.tree_print.proofs.Again.{unformed-alike, lexeme-again, lexeme-solid, taken-within, taken-lexeme}
use Rattle.tree_print.proofs.Relaid.{separator_byte, relaid-lexeme}
use Rattle.tree_print.proofs.Ended.{Ended, one, Starts, laid, all-both, all-front}

-- Behind a string that never ends, its line ends in the one text as in the other; and the one ends where the other does.
pub record Stops (class : Class) (text other : List ℕ) : Type 0 where
  pub line : separator_byte class ≡ 10 → run is_within_line text ≡ 0 → run is_within_line other ≡ 0
  pub nothing : text ≡ [] → other ≡ []

-- the next pieces of a text, which begin with a lexeme, are read again
pub record Next (first : ℕ) (tail : List ℕ) (next : Read) : Type 0 where
  pub class : Class
  pub starts : Starts next.pieces
  pub ended : Ended next.pieces (separator_byte class)
  pub solid : is_blank first ≡ false
  pub again : (rest : List ℕ) → Alike 0 next.rest rest → Stops class next.rest rest → next_at enough false (bytes_of (laid next.pieces) ++ rest) ≡ record { pieces = laid next.pieces; rest = rest }
  pub line : list_all is_within_line (first ∷ tail) ≡ true → (list_all is_within_line (bytes_of (laid next.pieces)) ≡ true) × ((is_within_line (separator_byte class) ≡ true) ⊎ (next.rest ≡ []))

-- a lexeme that is no string
lexeme-read : (first : ℕ) (bytes text rest : List ℕ) → Alike 0 text rest → string_form (first ∷ (bytes ++ text)) ≡ None → is_gap (piece_at false (first ∷ (bytes ++ text))).class ≡ false
    → (piece_at false (first ∷ (bytes ++ text))).size ≡ suc (length bytes)
    → next_at enough false (first ∷ (bytes ++ rest)) ≡ record { pieces = ((piece_at false (first ∷ (bytes ++ text))).class, first ∷ bytes) ∷ []; rest = rest }
lexeme-read first bytes text rest a none lexeme size =
    let old : List ℕ = first ∷ (bytes ++ text) in
    let new : List ℕ = first ∷ (bytes ++ rest) in
    let class : Class = (piece_at false old).class in
    let shared : Alike (length (first ∷ bytes)) old new = alike-behind (first ∷ bytes) a in
    none-begins new (string_form new) (unformed-alike old new shared none)
    ∙ ap (λ (p : Piece). record { pieces = (p.class, take p.size new) ∷ []; rest = drop p.size new }) (lexeme-again first bytes text rest a lexeme size)
    ∙ ap (λ (n : ℕ). record { pieces = (class, take n new) ∷ []; rest = drop n new }) size
    ∙ ap (λ (front : List ℕ). record { pieces = (class, first ∷ front) ∷ []; rest = drop (length bytes) (bytes ++ rest) }) (take_at bytes rest (length bytes) refl)
    ∙ ap (λ (left : List ℕ). record { pieces = (class, first ∷ bytes) ∷ []; rest = left }) (drop_at bytes rest (length bytes) refl)

-- A lexeme that is no string is no string that never ends.

longer-class : (a b : Piece) → separator_byte a.class ≡ 32 → separator_byte b.class ≡ 32 → separator_byte (longer a b).class ≡ 32
longer-class a b h k = of (nat_lt a.size b.size)
  where
    of : (s : Bool) → separator_byte (if s then b else a).class ≡ 32
    of true = k
    of false = h

lexeme-class : (text : List ℕ) → separator_byte (lexeme_at text).class ≡ 32
lexeme-class text =
    longer-class (record { class = Word; size = word_size text }) _ refl
    (longer-class (record { class = Integer; size = integer_size text }) _ refl
    (longer-class (record { class = Double; size = double_size text }) _ refl
    (longer-class (record { class = Mark; size = mark_size text }) _ refl
    (longer-class (record { class = BeyondAscii; size = run is_beyond_ascii text }) (record { class = IllegalCharacter; size = 1 }) refl refl))))

pub lexeme-next : (first : ℕ) (tail : List ℕ) → string_form (first ∷ tail) ≡ None → is_gap (piece_at false (first ∷ tail)).class ≡ false → Next first tail (read_piece false (first ∷ tail))
lexeme-next first tail none lexeme = of (piece_at false (first ∷ tail)).size refl (piece_least false (first ∷ tail) (omega arith))
  where
    text : List ℕ
    text = first ∷ tail

    class : Class
    class = (piece_at false (first ∷ tail)).class

    of : (n : ℕ) → (piece_at false (first ∷ tail)).size ≡ n → 1 ≤ n → Next first tail (read_piece false (first ∷ tail))
    of zero e some = absurd (omega (arith, some))
    of (suc s) e some =
        let bytes : List ℕ = take s tail in
        let left : List ℕ = drop s tail in
        let piece : Spelled = ((piece_at false (first ∷ tail)).class, first ∷ bytes) in
        let whole : bytes ++ left ≡ tail = take-append-drop s tail in
        let long : length bytes ≡ s = omega (arith, length-take s tail, taken-within (first ∷ tail) (omega arith) lexeme, e) in
        let laid-one : laid (piece ∷ []) ≡ piece ∷ [] = relaid-lexeme (Some StringClosing) false piece [] lexeme in
        let byte : separator_byte (piece_at false (first ∷ tail)).class ≡ 32 = ap (λ (p : Piece). separator_byte p.class) (taken-lexeme (first ∷ tail) lexeme) ∙ lexeme-class (first ∷ tail) in
        subst (λ (r : Read). Next first tail r) (sym (ap (λ (n : ℕ). record { pieces = ((piece_at false (first ∷ tail)).class, take n (first ∷ tail)) ∷ []; rest = drop n (first ∷ tail) }) e))
        (record {
          class = (piece_at false (first ∷ tail)).class;
          starts = record { first = piece; rest = []; is = refl; lexeme = lexeme };
          ended = one piece lexeme;
          solid = lexeme-solid first tail lexeme;
          again = λ rest a stops.
              ap (λ (ps : List Spelled). next_at enough false (bytes_of ps ++ rest)) laid-one
              ∙ ap (λ (bs : List ℕ). next_at enough false (bs ++ rest)) (append-nothing (first ∷ bytes))
              ∙ lexeme-read first bytes left rest a (ap (λ (t : List ℕ). string_form (first ∷ t)) whole ∙ none) (ap (λ (t : List ℕ). is_gap (piece_at false (first ∷ t)).class) whole ∙ lexeme)
              (ap (λ (t : List ℕ). (piece_at false (first ∷ t)).size) whole ∙ e ∙ ap suc (sym long))
              ∙ ap (λ (t : List ℕ). record { pieces = ((piece_at false (first ∷ t)).class, first ∷ bytes) ∷ []; rest = rest }) whole
              ∙ ap (λ (ps : List Spelled). record { pieces = ps; rest = rest }) (sym laid-one);
          line = λ t. (
            subst (λ (ps : List Spelled). list_all is_within_line (bytes_of ps) ≡ true) (sym laid-one)
                (all-both is_within_line (first ∷ bytes) [] (all-front is_within_line (first ∷ bytes) left (subst (λ (x : List ℕ). list_all is_within_line (first ∷ x) ≡ true) (sym whole) t)) refl),
            inl (ap is_within_line byte),
          );
        })

-- Reaches.

all-while : (p : ℕ → Bool) (text : List ℕ) → list_all p (take_while p text) ≡ true
all-while p [] = refl
all-while p (b ∷ text) = rw (take_while-cons p b text) (chosen (p b) refl (all-while p text))
  where
    chosen : (s : Bool) → p b ≡ s → list_all p (take_while p text) ≡ true → list_all p (if s then b ∷ take_while p text else []) ≡ true
    chosen true e h = and_from (p b) (list_all p (take_while p text)) e h
    chosen false e h = refl

while-stops : (p : ℕ → Bool) (text : List ℕ) → run p (drop (run p text) text) ≡ 0
while-stops p [] = refl
while-stops p (b ∷ text) = subst (λ (front : List ℕ). run p (drop (length front) (b ∷ text)) ≡ 0) (sym (take_while-cons p b text)) (chosen (p b) refl (while-stops p text))
  where
    chosen : (s : Bool) → p b ≡ s → run p (drop (run p text) text) ≡ 0 → run p (drop (length (if s then b ∷ take_while p text else [])) (b ∷ text)) ≡ 0
    chosen true e h = h
    chosen false e h = ap length (take_while-cons p b text) ∙ ap (λ (s : Bool). length (if s then b ∷ take_while p text else [])) e

while-alike : (p : ℕ → Bool) {n : ℕ} (text other : List ℕ) → Alike n text other → Alike 0 (take_while p text) (take_while p other)
while-alike p text other ends = ends
while-alike p text other (blank byte rest e) = subst (λ (t : List ℕ). Alike 0 (take_while p text) t) (sym (take_while-cons p byte rest)) (of (p byte))
  where
    of : (s : Bool) → Alike 0 (take_while p text) (if s then byte ∷ take_while p rest else [])
    of true = blank byte (take_while p rest) e
    of false = ends
while-alike p text other (same byte {text = tail} {other = rest} less a) =
    subst (λ (t : List ℕ). Alike 0 t (take_while p (byte ∷ rest))) (sym (take_while-cons p byte tail))
    (subst (λ (t : List ℕ). Alike 0 (if p byte then byte ∷ take_while p tail else []) t) (sym (take_while-cons p byte rest)) (of (p byte) (while-alike p tail rest a)))
  where
    of : (s : Bool) → Alike 0 (take_while p tail) (take_while p rest) → Alike 0 (if s then byte ∷ take_while p tail else []) (if s then byte ∷ take_while p rest else [])
    of true h = same byte (omega arith) h
    of false h = ends

pub reach-alike : (form : Form) (text other : List ℕ) → Alike 0 text other → Alike 0 (within_reach form text) (within_reach form other)
reach-alike form text other a = of (length form.quotes == 1)
  where
    of : (s : Bool) → Alike 0 (if s then take_while is_within_line text else text) (if s then take_while is_within_line other else other)
    of true = while-alike is_within_line text other a
    of false = a

pub reach-front : (form : Form) (front text : List ℕ) → ((length form.quotes == 1) ≡ true → list_all is_within_line front ≡ true) → within_reach form (front ++ text) ≡ front ++ within_reach form text
reach-front form front text h = of (length form.quotes == 1) h
  where
    of : (s : Bool) → (s ≡ true → list_all is_within_line front ≡ true) → (if s then take_while is_within_line (front ++ text) else front ++ text) ≡ front ++ (if s then take_while is_within_line text else text)
    of true h = front-past is_within_line front text (h refl)
    of false h = refl

pub reach-split : (form : Form) (text : List ℕ) → within_reach form text ++ drop (length (within_reach form text)) text ≡ text
reach-split form text = of (length form.quotes == 1)
  where
    of : (s : Bool) → (if s then take_while is_within_line text else text) ++ drop (length (if s then take_while is_within_line text else text)) text ≡ text
    of true = front-split is_within_line text
    of false = ap (λ (t : List ℕ). text ++ t) (drop_all (length text) text (omega arith)) ∙ append-nothing text

-- the reach of a string of one quote stands in a line
pub reach-line : (form : Form) (text : List ℕ) → (length form.quotes == 1) ≡ true → list_all is_within_line (within_reach form text) ≡ true
reach-line form text h = of (length form.quotes == 1) h
  where
    of : (s : Bool) → s ≡ true → list_all is_within_line (if s then take_while is_within_line text else text) ≡ true
    of true e = all-while is_within_line text
    of false e = absurd (cc)

-- behind the reach of a string its line ends, or the text
pub beyond-none : (form : Form) (text : List ℕ) → within_reach form (drop (length (within_reach form text)) text) ≡ []
beyond-none form text = of (length form.quotes == 1)
  where
    empty : (xs : List ℕ) → length xs ≡ 0 → xs ≡ []
    empty [] e = refl
    empty (x ∷ xs) e = absurd (omega (arith, e))

    of : (s : Bool) → (if s then take_while is_within_line (drop (length (if s then take_while is_within_line text else text)) text) else drop (length (if s then take_while is_within_line text else text)) text) ≡ []
    of true = empty (take_while is_within_line (drop (run is_within_line text) text)) (while-stops is_within_line text)
    of false = drop_all (length text) text (omega arith)
