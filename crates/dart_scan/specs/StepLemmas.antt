-- Strings and interpolations: what is read covers the text, and steps don't matter where they are enough.
use Rattle.std.proofs.Common.{◌≡◌, ℕ, zero, suc, ◌+◌, ◌≤◌, ◌<◌, ◌==◌, ◌&&◌, Bool, true, false, List, [], ◌∷◌, ◌++◌, length, take, drop, codes, nat_lt, if◌then◌else◌, Option, Some, None, option_map, refl, sym, ap, subst, ◌∙◌, arith, length-append, length-drop, length-take, append_assoc}
use Rattle.std.specs.Prelude.{All, IfSome, option_and_then}
use Rattle.std.specs.Option.{option_map_or}
use Rattle.std.specs.List.{flat_map}
use Rattle.std.proofs.lemmas.Bool.Decides.{nat_tests}
use Rattle.std.proofs.lemmas.List.{take-append-drop, drop-drop}
use Rattle.std.proofs.lemmas.List.Elements.{All-nil, All-cons, All-append}
use Rattle.dart_scan.specs.declared.piece.Class.{Class}
use Rattle.dart_scan.specs.declared.piece.Class.TheVariants.{Word, StringOpening, StringPart, UnterminatedString, InterpolationMark, InterpolationOpening, InterpolationClosing}
use Rattle.dart_scan.specs.declared.piece.Piece.{Piece}
use Rattle.dart_scan.specs.Lexemes.{begins}
use Rattle.dart_scan.specs.Strings.{Form, opening_of, string_form, within_reach, name_size, is_interpolated, begins_name, plain_size}
use Rattle.dart_scan.specs.Pieces.{Spelled, Read, behind, piece_at, read_piece, Fewer, string_at, next_at, last_class, part_before, name_row, expression_row, after_plain, parts_row, braces_behind, expression_pieces, within_steps, pieces_within}
use Rattle.dart_scan.specs.PieceLemmas.{piece_least}
use Rattle.dart_scan.specs.FormLemmas.{begins-split, Opens, opens, Reaches, reaches}

-- Pieces, and the bytes that are of them.

abbrev pub bytes_of : List Spelled → List ℕ
bytes_of ps = flat_map (λ p. p.1) ps

abbrev pub IsSome : Spelled → Type 0
IsSome p = 0 < length p.1

pub bytes_of-append : (ps qs : List Spelled) → bytes_of (ps ++ qs) ≡ bytes_of ps ++ bytes_of qs
bytes_of-append [] qs = refl
bytes_of-append (p ∷ ps) qs = ap (λ bs. p.1 ++ bs) (bytes_of-append ps qs) ∙ sym (append_assoc p.1 (bytes_of ps) (bytes_of qs))

pub one : (p : Spelled) → IsSome p → All IsSome (p ∷ [])
one p h = All-cons IsSome p [] h (All-nil IsSome)

-- Of an optional value, by what holds of it.

pub map-some : {A B : Type 0} (P : A → Type 0) (Q : B → Type 0) (f : A → B) (o : Option A) → IfSome o P → ((a : A) → P a → Q (f a)) → IfSome (option_map f o) Q
map-some P Q f None h k = tt
map-some P Q f (Some a) h k = k a h

pub then-some : {A B : Type 0} (P : A → Type 0) (Q : B → Type 0) (f : A → Option B) (o : Option A) → IfSome o P → ((a : A) → P a → IfSome (f a) Q) → IfSome (option_and_then f o) Q
then-some P Q f None h k = tt
then-some P Q f (Some a) h k = k a h

pub either : {A : Type 0} (Q : A → Type 0) (b : Bool) (x y : Option A) → (b ≡ true → IfSome x Q) → (b ≡ false → IfSome y Q) → IfSome (if b then x else y) Q
either Q true x y h k = h refl
either Q false x y h k = k refl

-- What is read covers the text, each piece has a byte at least, and so many bytes at most are left.
pub record Fair (whole : List ℕ) (left : ℕ) (read : Read) : Type 0 where
  pub cover : bytes_of read.pieces ++ read.rest ≡ whole
  pub some : All IsSome read.pieces
  pub shrinks : length read.rest ≤ left

pub record IsFair (fewer : Fewer) : Type 0 where
  pub parts : (form : Form) (begun text : List ℕ) → 1 ≤ length form.quotes → IfSome (fewer.parts form begun text) (Fair (begun ++ text) (length text))
  pub expression : (braces : ℕ) (text : List ℕ) → IfSome (fewer.expression braces text) (Fair text (length text))

-- pieces before what is read
fair-behind : (whole rest : List ℕ) (n m : ℕ) (ps : List Spelled) (read : Read) → bytes_of ps ++ rest ≡ whole → All IsSome ps → n ≤ m → Fair rest n read → Fair whole m (behind ps read)
fair-behind whole rest n m ps read cover some less f = record {
  cover = ap (λ bs. bs ++ read.rest) (bytes_of-append ps read.pieces) ∙ append_assoc (bytes_of ps) (bytes_of read.pieces) read.rest ∙ ap (λ bs. bytes_of ps ++ bs) f.cover ∙ cover;
  some = All-append IsSome ps read.pieces some f.some;
  shrinks = omega (arith, f.shrinks, less);
}

-- the bytes before a piece ends, and what ends it
part-bytes : (begun plain : List ℕ) → bytes_of (part_before begun plain) ≡ begun ++ plain
part-bytes [] [] = refl
part-bytes [] (b ∷ plain) = nothing-behind (b ∷ plain)
  where
    nothing-behind : (xs : List ℕ) → xs ++ [] ≡ xs
    nothing-behind [] = refl
    nothing-behind (x ∷ xs) = ap (λ ys. x ∷ ys) (nothing-behind xs)
part-bytes (b ∷ begun) plain = nothing-behind (b ∷ begun ++ plain)
  where
    nothing-behind : (xs : List ℕ) → xs ++ [] ≡ xs
    nothing-behind [] = refl
    nothing-behind (x ∷ xs) = ap (λ ys. x ∷ ys) (nothing-behind xs)

part-some : (begun plain : List ℕ) → All IsSome (part_before begun plain)
part-some [] [] = All-nil IsSome
part-some [] (b ∷ plain) = one (StringPart, b ∷ plain) (omega arith)
part-some (b ∷ begun) plain = one (StringOpening, b ∷ begun ++ plain) (omega arith)

pub name-some : (text : List ℕ) → 0 < name_size text → 0 < length (take (name_size text) text)
name-some [] h = absurd (omega (arith, h))
name-some (b ∷ text) h = omega (arith, h, length-take (name_size (b ∷ text)) (b ∷ text))

pub named-parts : (text : List ℕ) (b : Bool) → (begins text (codes "$") && (nat_lt 0 (name_size (drop 1 text)) && b)) ≡ true → (begins text (codes "$") ≡ true) × (0 < name_size (drop 1 text))
named-parts text b h = of (begins text (codes "$")) (nat_lt 0 (name_size (drop 1 text))) refl refl h
  where
    of : (s t : Bool) → begins text (codes "$") ≡ s → nat_lt 0 (name_size (drop 1 text)) ≡ t → (s && (t && b)) ≡ true → (begins text (codes "$") ≡ true) × (0 < name_size (drop 1 text))
    of true true e f h = (e, grind (arith, nat_tests, f))
    of true false e f h = absurd (cc)
    of false t e f h = absurd (cc)

-- a name of some size
name-of-size : (fewer : Fewer) → IsFair fewer → (form : Form) (text : List ℕ) (size : ℕ) → 1 ≤ length form.quotes → begins text (codes "$") ≡ true → 0 < length (take size (drop 1 text))
    → IfSome (option_map (behind ((InterpolationMark, codes "$") ∷ (Word, take size (drop 1 text)) ∷ [])) (fewer.parts form [] (drop (1 + size) text))) (Fair text (length text))
name-of-size fewer fair form text size some e h =
    map-some (Fair (drop (1 + size) text) (length (drop (1 + size) text))) (Fair text (length text)) (behind ((InterpolationMark, codes "$") ∷ (Word, take size (drop 1 text)) ∷ [])) (fewer.parts form [] (drop (1 + size) text))
    (fair.parts form [] (drop (1 + size) text) some)
    (λ read f. fair-behind text (drop (1 + size) text) (length (drop (1 + size) text)) (length text) ((InterpolationMark, codes "$") ∷ (Word, take size (drop 1 text)) ∷ []) read
    (ap (λ xs. 36 ∷ xs) (append_assoc (take size (drop 1 text)) [] (drop (1 + size) text) ∙ ap (λ r. take size (drop 1 text) ++ r) (sym (drop-drop size 1 text)) ∙ take-append-drop size (drop 1 text)) ∙ sym (begins-split (codes "$") text e))
    (All-cons IsSome (InterpolationMark, codes "$") ((Word, take size (drop 1 text)) ∷ []) (omega arith) (one (Word, take size (drop 1 text)) h))
    (omega (arith, length-drop (1 + size) text)) f)

name-fair : (fewer : Fewer) → IsFair fewer → (form : Form) (text : List ℕ) → 1 ≤ length form.quotes → begins_name text ≡ true → IfSome (name_row fewer form text) (Fair text (length text))
name-fair fewer fair form text some h =
    let known : (begins text (codes "$") ≡ true) × (0 < name_size (drop 1 text)) = named-parts text (is_interpolated (take (name_size (drop 1 text)) (drop 1 text))) h in
    name-of-size fewer fair form text (name_size (drop 1 text)) some known.0 (name-some (drop 1 text) known.1)

expression-fair : (fewer : Fewer) → IsFair fewer → (form : Form) (text : List ℕ) → 1 ≤ length form.quotes → begins text (codes "${") ≡ true → IfSome (expression_row fewer form text) (Fair text (length text))
expression-fair fewer fair form text some e =
    then-some (Fair (drop 2 text) (length (drop 2 text))) (Fair text (length text)) (λ inner. option_map (behind ((InterpolationOpening, codes "${") ∷ inner.pieces)) (fewer.parts form [] inner.rest))
    (fewer.expression 0 (drop 2 text)) (fair.expression 0 (drop 2 text))
    (λ inner f. map-some (Fair inner.rest (length inner.rest)) (Fair text (length text)) (behind ((InterpolationOpening, codes "${") ∷ inner.pieces)) (fewer.parts form [] inner.rest) (fair.parts form [] inner.rest some)
    (λ read g. fair-behind text inner.rest (length inner.rest) (length text) ((InterpolationOpening, codes "${") ∷ inner.pieces) read
    (ap (λ xs. 36 ∷ 123 ∷ xs) f.cover ∙ sym (begins-split (codes "${") text e))
    (All-cons IsSome (InterpolationOpening, codes "${") inner.pieces (omega arith) f.some)
    (omega (arith, f.shrinks, length-drop 2 text)) g))

-- a piece of a string that ends, and what ends it
ended : (class : Class) (begun plain quotes text : List ℕ) → 1 ≤ length quotes → begins text quotes ≡ true
    → Fair (begun ++ (plain ++ text)) (length (plain ++ text)) (record { pieces = (class, begun ++ plain ++ quotes) ∷ []; rest = drop (length quotes) text })
ended class begun plain quotes text some e = record {
  cover = append_assoc ((begun ++ plain) ++ quotes) [] (drop (length quotes) text) ∙ append_assoc (begun ++ plain) quotes (drop (length quotes) text)
      ∙ ap (λ xs. (begun ++ plain) ++ xs) (sym (begins-split quotes text e)) ∙ append_assoc begun plain text;
  some = one (class, begun ++ plain ++ quotes) (omega (arith, some, length-append (begun ++ plain) quotes));
  shrinks = omega (arith, length-drop (length quotes) text, length-append plain text);
}

after-fair : (fewer : Fewer) → IsFair fewer → (form : Form) (begun plain text : List ℕ) → 1 ≤ length form.quotes → IfSome (after_plain fewer form begun plain text) (Fair (begun ++ (plain ++ text)) (length (plain ++ text)))
after-fair fewer fair form begun plain text some =
    either (Fair (begun ++ (plain ++ text)) (length (plain ++ text))) (begins text form.quotes) _ _
    (λ e. ended (last_class begun) begun plain form.quotes text some e)
    (λ _. map-some (Fair text (length text)) (Fair (begun ++ (plain ++ text)) (length (plain ++ text))) (behind (part_before begun plain)) _
    (either (Fair text (length text)) form.raw None _ (λ _. tt)
    (λ _. either (Fair text (length text)) (begins text (codes "${")) _ _ (expression-fair fewer fair form text some)
    (λ _. either (Fair text (length text)) (begins_name text) _ None (name-fair fewer fair form text some) (λ _. tt))))
    (λ read f. fair-behind (begun ++ (plain ++ text)) text (length text) (length (plain ++ text)) (part_before begun plain) read
    (ap (λ xs. xs ++ text) (part-bytes begun plain) ∙ append_assoc begun plain text) (part-some begun plain) (omega (arith, length-append plain text)) f))

parts-fair : (fewer : Fewer) → IsFair fewer → (form : Form) (begun text : List ℕ) → 1 ≤ length form.quotes → IfSome (parts_row fewer form begun text) (Fair (begun ++ text) (length text))
parts-fair fewer fair form begun text some =
    subst (λ t. IfSome (parts_row fewer form begun text) (Fair (begun ++ t) (length t))) (take-append-drop (plain_size form text) text)
    (after-fair fewer fair form begun (take (plain_size form text) text) (drop (plain_size form text) text) some)

-- The next pieces cover the text, and take a byte at least.

read-fair : (first : Bool) (byte : ℕ) (text : List ℕ) → Fair (byte ∷ text) (length text) (read_piece first (byte ∷ text))
read-fair first byte text = of (piece_at first (byte ∷ text)) (piece_least first (byte ∷ text) (omega arith))
  where
    of : (piece : Piece) → 1 ≤ piece.size → Fair (byte ∷ text) (length text) (record { pieces = (piece.class, take piece.size (byte ∷ text)) ∷ []; rest = drop piece.size (byte ∷ text) })
    of piece h = record {
      cover = append_assoc (take piece.size (byte ∷ text)) [] (drop piece.size (byte ∷ text)) ∙ take-append-drop piece.size (byte ∷ text);
      some = one (piece.class, take piece.size (byte ∷ text)) (omega (arith, h, length-take piece.size (byte ∷ text)));
      shrinks = omega (arith, h, length-drop piece.size (byte ∷ text));
    }

-- a string in a reach that begins with its opening, and what is beyond
string-fair : (o : Option Read) (opening inside reach beyond whole : List ℕ) (left : ℕ) → 1 ≤ length opening → reach ≡ opening ++ inside → reach ++ beyond ≡ whole → length whole ≤ left + 1
    → IfSome o (Fair (opening ++ inside) (length inside))
    → Fair whole left (option_map_or (λ read. record { pieces = read.pieces; rest = read.rest ++ beyond }) o (record { pieces = (UnterminatedString, reach) ∷ []; rest = beyond }))
string-fair None opening inside reach beyond whole left some is split most f = record {
  cover = append_assoc reach [] beyond ∙ split;
  some = one (UnterminatedString, reach) (omega (arith, some, ap length is, length-append opening inside));
  shrinks = omega (arith, some, most, ap length is, length-append opening inside, ap length split, length-append reach beyond);
}
string-fair (Some read) opening inside reach beyond whole left some is split most f = record {
  cover = sym (append_assoc (bytes_of read.pieces) read.rest beyond) ∙ ap (λ xs. xs ++ beyond) (f.cover ∙ sym is) ∙ split;
  some = f.some;
  shrinks = omega (arith, some, most, f.shrinks, ap length is, length-append opening inside, ap length split, length-append reach beyond, length-append read.rest beyond);
}

pub opening-some : (form : Form) → 1 ≤ length form.quotes → 1 ≤ length (opening_of form)
opening-some form h = of form.raw
  where
    of : (raw : Bool) → 1 ≤ length (if raw then 114 ∷ form.quotes else form.quotes)
    of true = omega arith
    of false = h

pub next-fair : (fewer : Fewer) → IsFair fewer → (first : Bool) (byte : ℕ) (text : List ℕ) → Fair (byte ∷ text) (length text) (next_at fewer first (byte ∷ text))
next-fair fewer fair first byte text = of (string_form (byte ∷ text)) refl
  where
    of : (o : Option Form) → string_form (byte ∷ text) ≡ o → Fair (byte ∷ text) (length text) (option_map_or (λ form. string_at fewer form (byte ∷ text)) o (read_piece first (byte ∷ text)))
    of None e = read-fair first byte text
    of (Some form) e =
        let o : Opens form (byte ∷ text) = opens (byte ∷ text) form e in
        let r : Reaches form (byte ∷ text) = reaches form (byte ∷ text) o in
        string-fair _ (opening_of form) (drop (length (opening_of form)) (within_reach form (byte ∷ text))) (within_reach form (byte ∷ text)) (drop (length (within_reach form (byte ∷ text))) (byte ∷ text)) (byte ∷ text) (length text)
        (opening-some form o.some) r.opened r.split (omega arith) (fair.parts form (opening_of form) (drop (length (opening_of form)) (within_reach form (byte ∷ text))) o.some)

pub brace : (byte : ℕ) (text : List ℕ) (braces : ℕ) → (begins (byte ∷ text) (codes "}") && braces == 0) ≡ true → 125 ∷ text ≡ byte ∷ text
brace byte text braces h = of (begins (byte ∷ text) (codes "}")) (braces == 0) refl h
  where
    of : (s t : Bool) → begins (byte ∷ text) (codes "}") ≡ s → (s && t) ≡ true → 125 ∷ text ≡ byte ∷ text
    of true t e h = sym (begins-split (codes "}") (byte ∷ text) e)
    of false t e h = absurd (cc)

pieces-fair : (fewer : Fewer) → IsFair fewer → (braces : ℕ) (text : List ℕ) → IfSome (expression_pieces fewer braces text) (Fair text (length text))
pieces-fair fewer fair braces [] = tt
pieces-fair fewer fair braces (byte ∷ text) =
    either (Fair (byte ∷ text) (length (byte ∷ text))) (begins (byte ∷ text) (codes "}") && braces == 0) _ _
    (λ e. record { cover = brace byte text braces e; some = one (InterpolationClosing, codes "}") (omega arith); shrinks = omega arith })
    (λ _. of (next_at fewer false (byte ∷ text)) (next-fair fewer fair false byte text))
  where
    of : (next : Read) → Fair (byte ∷ text) (length text) next
        → IfSome (option_map (behind next.pieces) (fewer.expression (braces_behind braces (byte ∷ text)) next.rest)) (Fair (byte ∷ text) (length (byte ∷ text)))
    of next f =
        map-some (Fair next.rest (length next.rest)) (Fair (byte ∷ text) (length (byte ∷ text))) (behind next.pieces) _ (fair.expression (braces_behind braces (byte ∷ text)) next.rest)
        (λ read g. fair-behind (byte ∷ text) next.rest (length next.rest) (length (byte ∷ text)) next.pieces read f.cover f.some (omega (arith, f.shrinks)) g)

pub fair : (steps : ℕ) → IsFair (within_steps steps)
unfolding within_steps
fair zero = record { parts = λ form begun text some. tt; expression = λ braces text. tt }
fair (suc steps) = record { parts = parts-fair (within_steps steps) (fair steps); expression = pieces-fair (within_steps steps) (fair steps) }

-- Two readings agree on texts that are short enough for both.
pub record Agree (m n : ℕ) (a b : Fewer) : Type 0 where
  pub parts : (form : Form) (begun text : List ℕ) → 1 ≤ length form.quotes → length text ≤ m → length text ≤ n → a.parts form begun text ≡ b.parts form begun text
  pub expression : (braces : ℕ) (text : List ℕ) → length text ≤ m → length text ≤ n → a.expression braces text ≡ b.expression braces text

then-same : {A B : Type 0} (P : A → Type 0) (f g : A → Option B) (o p : Option A) → o ≡ p → IfSome p P → ((x : A) → P x → f x ≡ g x) → option_and_then f o ≡ option_and_then g p
then-same P f g o None e h k = ap (option_and_then f) e
then-same P f g o (Some x) e h k = ap (option_and_then f) e ∙ k x h

if-same : {A : Type 0} (b : Bool) (x y z w : A) → (b ≡ true → x ≡ z) → (b ≡ false → y ≡ w) → (if b then x else y) ≡ (if b then z else w)
if-same true x y z w h k = h refl
if-same false x y z w h k = k refl

expression-agrees : (m n : ℕ) (a b : Fewer) → Agree m n a b → IsFair b → (form : Form) (text : List ℕ) → 1 ≤ length form.quotes → length text ≤ suc m → length text ≤ suc n → expression_row a form text ≡ expression_row b form text
expression-agrees m n a b same fair form text some h k =
    then-same (Fair (drop 2 text) (length (drop 2 text))) _ _ (a.expression 0 (drop 2 text)) (b.expression 0 (drop 2 text))
    (same.expression 0 (drop 2 text) (omega (arith, h, length-drop 2 text)) (omega (arith, k, length-drop 2 text))) (fair.expression 0 (drop 2 text))
    (λ inner f. ap (option_map (behind ((InterpolationOpening, codes "${") ∷ inner.pieces)))
    (same.parts form [] inner.rest some (omega (arith, h, f.shrinks, length-drop 2 text)) (omega (arith, k, f.shrinks, length-drop 2 text))))

name-agrees : (m n : ℕ) (a b : Fewer) → Agree m n a b → (form : Form) (text : List ℕ) → 1 ≤ length form.quotes → length text ≤ suc m → length text ≤ suc n → name_row a form text ≡ name_row b form text
name-agrees m n a b same form text some h k =
    ap (option_map (behind ((InterpolationMark, codes "$") ∷ (Word, take (name_size (drop 1 text)) (drop 1 text)) ∷ [])))
    (same.parts form [] (drop (1 + name_size (drop 1 text)) text) some (omega (arith, h, length-drop (1 + name_size (drop 1 text)) text)) (omega (arith, k, length-drop (1 + name_size (drop 1 text)) text)))

pub after-agrees : (m n : ℕ) (a b : Fewer) → Agree m n a b → IsFair b → (form : Form) (begun plain text : List ℕ) → 1 ≤ length form.quotes → length text ≤ suc m → length text ≤ suc n
    → after_plain a form begun plain text ≡ after_plain b form begun plain text
after-agrees m n a b same fair form begun plain text some h k =
    if-same (begins text form.quotes) _ _ _ _ (λ _. refl)
    (λ _. ap (option_map (behind (part_before begun plain)))
    (if-same form.raw None _ None _ (λ _. refl)
    (λ _. if-same (begins text (codes "${")) _ _ _ _ (λ _. expression-agrees m n a b same fair form text some h k)
    (λ _. if-same (begins_name text) _ None _ None (λ _. name-agrees m n a b same form text some h k) (λ _. refl)))))

pub parts-agree : (m n : ℕ) (a b : Fewer) → Agree m n a b → IsFair b → (form : Form) (begun text : List ℕ) → 1 ≤ length form.quotes → length text ≤ suc m → length text ≤ suc n
    → parts_row a form begun text ≡ parts_row b form begun text
parts-agree m n a b same fair form begun text some h k =
    after-agrees m n a b same fair form begun (take (plain_size form text) text) (drop (plain_size form text) text) some
    (omega (arith, h, length-drop (plain_size form text) text)) (omega (arith, k, length-drop (plain_size form text) text))

pub next-agrees : (m n : ℕ) (a b : Fewer) → Agree m n a b → (first : Bool) (byte : ℕ) (text : List ℕ) → length text ≤ m → length text ≤ n → next_at a first (byte ∷ text) ≡ next_at b first (byte ∷ text)
next-agrees m n a b same first byte text h k = of (string_form (byte ∷ text)) refl
  where
    of : (o : Option Form) → string_form (byte ∷ text) ≡ o
        → option_map_or (λ form. string_at a form (byte ∷ text)) o (read_piece first (byte ∷ text)) ≡ option_map_or (λ form. string_at b form (byte ∷ text)) o (read_piece first (byte ∷ text))
    of None e = refl
    of (Some form) e =
        let o : Opens form (byte ∷ text) = opens (byte ∷ text) form e in
        let r : Reaches form (byte ∷ text) = reaches form (byte ∷ text) o in
        let less : length (drop (length (opening_of form)) (within_reach form (byte ∷ text))) ≤ length text = omega (
          arith,
          opening-some form o.some,
          length-drop (length (opening_of form)) (within_reach form (byte ∷ text)),
          ap length r.split,
          length-append (within_reach form (byte ∷ text)) (drop (length (within_reach form (byte ∷ text))) (byte ∷ text)),
        ) in
        ap (λ x. option_map_or (λ read. record { pieces = read.pieces; rest = read.rest ++ drop (length (within_reach form (byte ∷ text))) (byte ∷ text) }) x
        (record { pieces = (UnterminatedString, within_reach form (byte ∷ text)) ∷ []; rest = drop (length (within_reach form (byte ∷ text))) (byte ∷ text) }))
        (same.parts form (opening_of form) (drop (length (opening_of form)) (within_reach form (byte ∷ text))) o.some (omega (arith, h, less)) (omega (arith, k, less)))

pub pieces-agree : (m n : ℕ) (a b : Fewer) → Agree m n a b → IsFair b → (braces : ℕ) (text : List ℕ) → length text ≤ suc m → length text ≤ suc n → expression_pieces a braces text ≡ expression_pieces b braces text
pieces-agree m n a b same fair braces [] h k = refl
pieces-agree m n a b same fair braces (byte ∷ text) h k =
    let less : length text ≤ m = omega (arith, h) in
    let less' : length text ≤ n = omega (arith, k) in
    if-same (begins (byte ∷ text) (codes "}") && braces == 0) _ _ _ _ (λ _. refl)
    (λ _. of less less' (next_at a false (byte ∷ text)) (next_at b false (byte ∷ text)) (next-agrees m n a b same false byte text less less') (next-fair b fair false byte text))
  where
    of : length text ≤ m → length text ≤ n → (next next' : Read) → next ≡ next' → Fair (byte ∷ text) (length text) next'
        → option_map (behind next.pieces) (a.expression (braces_behind braces (byte ∷ text)) next.rest) ≡ option_map (behind next'.pieces) (b.expression (braces_behind braces (byte ∷ text)) next'.rest)
    of less less' next next' e f =
        ap (λ x. option_map (behind x.pieces) (a.expression (braces_behind braces (byte ∷ text)) x.rest)) e
        ∙ ap (option_map (behind next'.pieces)) (same.expression (braces_behind braces (byte ∷ text)) next'.rest (omega (arith, less, f.shrinks)) (omega (arith, less', f.shrinks)))

-- nothing ends a string in an empty text
no-parts : (fewer : Fewer) (form : Form) (begun : List ℕ) → 1 ≤ length form.quotes → parts_row fewer form begun [] ≡ None
unfolding plain_size
no-parts fewer form begun h = of form.quotes form.raw h
  where
    of : (quotes : List ℕ) (raw : Bool) → 1 ≤ length quotes → after_plain fewer (record { quotes = quotes; raw = raw }) begun [] [] ≡ None
    of [] raw h = absurd (omega (arith, h))
    of (q ∷ quotes) true h = refl
    of (q ∷ quotes) false h = refl

pub agree : (m n : ℕ) → Agree m n (within_steps m) (within_steps n)
unfolding within_steps
agree zero zero = record { parts = λ form begun text some h k. refl; expression = λ braces text h k. refl }
agree zero (suc n) = record { parts = none; expression = nothing }
  where
    none : (form : Form) (begun text : List ℕ) → 1 ≤ length form.quotes → length text ≤ 0 → length text ≤ suc n → None ≡ parts_row (within_steps n) form begun text
    none form begun [] some h k = sym (no-parts (within_steps n) form begun some)
    none form begun (byte ∷ text) some h k = absurd (omega (arith, h))

    nothing : (braces : ℕ) (text : List ℕ) → length text ≤ 0 → length text ≤ suc n → None ≡ expression_pieces (within_steps n) braces text
    nothing braces [] h k = refl
    nothing braces (byte ∷ text) h k = absurd (omega (arith, h))
agree (suc m) zero = record { parts = none; expression = nothing }
  where
    none : (form : Form) (begun text : List ℕ) → 1 ≤ length form.quotes → length text ≤ suc m → length text ≤ 0 → parts_row (within_steps m) form begun text ≡ None
    none form begun [] some h k = no-parts (within_steps m) form begun some
    none form begun (byte ∷ text) some h k = absurd (omega (arith, k))

    nothing : (braces : ℕ) (text : List ℕ) → length text ≤ suc m → length text ≤ 0 → expression_pieces (within_steps m) braces text ≡ None
    nothing braces [] h k = refl
    nothing braces (byte ∷ text) h k = absurd (omega (arith, k))
agree (suc m) (suc n) = record { parts = parts-agree m n (within_steps m) (within_steps n) (agree m n) (fair n); expression = pieces-agree m n (within_steps m) (within_steps n) (agree m n) (fair n) }

-- The pieces of a text.

pub pieces-enough : (m n : ℕ) (first : Bool) (text : List ℕ) → length text ≤ m → length text ≤ n → pieces_within m first text ≡ pieces_within n first text
unfolding pieces_within
pieces-enough zero zero first text h k = refl
pieces-enough zero (suc n) first [] h k = refl
pieces-enough zero (suc n) first (byte ∷ text) h k = absurd (omega (arith, h))
pieces-enough (suc m) zero first [] h k = refl
pieces-enough (suc m) zero first (byte ∷ text) h k = absurd (omega (arith, k))
pieces-enough (suc m) (suc n) first [] h k = refl
pieces-enough (suc m) (suc n) first (byte ∷ text) h k =
    of (next_at (within_steps (suc m)) first (byte ∷ text)) (next_at (within_steps (suc n)) first (byte ∷ text))
    (next-agrees (suc m) (suc n) (within_steps (suc m)) (within_steps (suc n)) (agree (suc m) (suc n)) first byte text (omega (arith, h)) (omega (arith, k)))
    (next-fair (within_steps (suc n)) (fair (suc n)) first byte text) (λ rest. pieces-enough m n false rest)
  where
    of : (next next' : Read) → next ≡ next' → Fair (byte ∷ text) (length text) next' → ((rest : List ℕ) → length rest ≤ m → length rest ≤ n → pieces_within m false rest ≡ pieces_within n false rest)
        → next.pieces ++ pieces_within m false next.rest ≡ next'.pieces ++ pieces_within n false next'.rest
    of next next' e f go =
        ap (λ x. x.pieces ++ pieces_within m false x.rest) e ∙ ap (λ ps. next'.pieces ++ ps) (go next'.rest (omega (arith, h, f.shrinks)) (omega (arith, k, f.shrinks)))

pub pieces-cover : (steps : ℕ) (first : Bool) (text : List ℕ) → length text ≤ steps → bytes_of (pieces_within steps first text) ≡ text
unfolding pieces_within
pieces-cover zero first [] h = refl
pieces-cover zero first (byte ∷ text) h = absurd (omega (arith, h))
pieces-cover (suc steps) first [] h = refl
pieces-cover (suc steps) first (byte ∷ text) h = of (next_at (within_steps (suc steps)) first (byte ∷ text)) (next-fair (within_steps (suc steps)) (fair (suc steps)) first byte text) (pieces-cover steps false)
  where
    of : (next : Read) → Fair (byte ∷ text) (length text) next → ((rest : List ℕ) → length rest ≤ steps → bytes_of (pieces_within steps false rest) ≡ rest) → bytes_of (next.pieces ++ pieces_within steps false next.rest) ≡ byte ∷ text
    of next f go = bytes_of-append next.pieces (pieces_within steps false next.rest) ∙ ap (λ bs. bytes_of next.pieces ++ bs) (go next.rest (omega (arith, h, f.shrinks))) ∙ f.cover

pub pieces-some : (steps : ℕ) (first : Bool) (text : List ℕ) → All IsSome (pieces_within steps first text)
unfolding pieces_within
pieces-some zero first text = All-nil IsSome
pieces-some (suc steps) first [] = All-nil IsSome
pieces-some (suc steps) first (byte ∷ text) =
    let next = next_at (within_steps (suc steps)) first (byte ∷ text) in
    All-append IsSome next.pieces (pieces_within steps false next.rest) (next-fair (within_steps (suc steps)) (fair (suc steps)) first byte text).some (pieces-some steps false next.rest)
