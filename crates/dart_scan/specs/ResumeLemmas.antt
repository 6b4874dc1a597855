-- How a text goes on where strings are open, by what stands next.
use Rattle.std.proofs.Common.{◌≡◌, ℕ, suc, ◌+◌, ◌≤◌, ◌==◌, ◌&&◌, Bool, true, false, List, [], ◌∷◌, ◌++◌, length, take, drop, codes, if◌then◌else◌, Option, Some, None, option_map, refl, sym, ap, ◌∙◌, arith, append_assoc}
use Rattle.std.specs.Prelude.{option_and_then}
use Rattle.std.specs.Option.{option_map_or}
use Rattle.dart_scan.specs.declared.piece.Class.TheVariants.{Word, UnterminatedString, InterpolationMark, InterpolationOpening, InterpolationClosing}
use Rattle.dart_scan.specs.Lexemes.{begins}
use Rattle.dart_scan.specs.Strings.{Form, opening_of, string_form, within_reach, name_size, begins_name, plain_size}
use Rattle.dart_scan.specs.Pieces.{Spelled, Read, behind, piece_at, read_piece, string_at, next_at, last_class, part_before, name_row, expression_row, after_plain, parts_row, braces_behind, expression_pieces, within_steps, pieces_within}
use Rattle.dart_scan.specs.Suspended.{enough, pieces_behind, Suspended, finished, then_parts, resumed, resumed_within}
use Rattle.dart_scan.specs.StepLemmas.{Fair, IsFair, fair, next-fair, Agree, agree, next-agrees, pieces-enough, parts-agree, pieces-agree}

pub enough-fair : IsFair enough
enough-fair = record {
  parts = λ form begun text some. (fair (length text)).parts form begun text some;
  expression = λ braces text. (fair (length text)).expression braces text;
}

enough-agrees : (n : ℕ) → Agree n n (within_steps n) enough
enough-agrees n = record {
  parts = λ form begun text some h k. (agree n (length text)).parts form begun text some h (omega arith);
  expression = λ braces text h k. (agree n (length text)).expression braces text h (omega arith);
}

-- Strings and interpolations, one step of them.

pub parts-step : (form : Form) (begun text : List ℕ) → 1 ≤ length form.quotes → enough.parts form begun text ≡ parts_row enough form begun text
unfolding within_steps
parts-step form begun text some =
    (agree (length text) (suc (length text))).parts form begun text some (omega arith) (omega arith)
    ∙ parts-agree (length text) (length text) (within_steps (length text)) enough (enough-agrees (length text)) enough-fair form begun text some (omega arith) (omega arith)

pub expression-step : (braces : ℕ) (text : List ℕ) → enough.expression braces text ≡ expression_pieces enough braces text
unfolding within_steps
expression-step braces text =
    (agree (length text) (suc (length text))).expression braces text (omega arith) (omega arith)
    ∙ pieces-agree (length text) (length text) (within_steps (length text)) enough (enough-agrees (length text)) enough-fair braces text (omega arith) (omega arith)

pub first-step : (first : Bool) (byte : ℕ) (text : List ℕ) → pieces_within (length (byte ∷ text)) first (byte ∷ text)
    ≡ (next_at enough first (byte ∷ text)).pieces ++ pieces_behind (next_at enough first (byte ∷ text)).rest
unfolding pieces_within
first-step first byte text =
    of (next_at (within_steps (suc (length text))) first (byte ∷ text)) (next_at enough first (byte ∷ text))
    (next-agrees (suc (length text)) (suc (length text)) (within_steps (suc (length text))) enough (enough-agrees (suc (length text))) first byte text (omega arith) (omega arith))
    (next-fair enough enough-fair first byte text)
  where
    of : (next next' : Read) → next ≡ next' → Fair (byte ∷ text) (length text) next' → next.pieces ++ pieces_within (length text) false next.rest ≡ next'.pieces ++ pieces_behind next'.rest
    of next next' e f = ap (λ x. x.pieces ++ pieces_within (length text) false x.rest) e ∙ ap (λ ps. next'.pieces ++ ps) (pieces-enough (length text) (length next'.rest) false next'.rest f.shrinks (omega arith))

pub behind-step : (byte : ℕ) (text : List ℕ) → pieces_behind (byte ∷ text) ≡ (next_at enough false (byte ∷ text)).pieces ++ pieces_behind (next_at enough false (byte ∷ text)).rest
behind-step byte text = first-step false byte text

-- Pieces that are done, within a string or not.

finished-behind : (around : List Spelled → List ℕ → List Spelled) (string : Suspended) (done ps : List Spelled) (o : Option Read)
    → finished around string done (option_map (behind ps) o) ≡ finished around string (done ++ ps) o
finished-behind around string done ps None = refl
finished-behind around string done ps (Some read) = ap (λ d. around d (read.rest ++ string.beyond)) (sym (append_assoc done ps read.pieces))

then-behind : (form : Form) (ps : List Spelled) (o : Option Read) → then_parts form (option_map (behind ps) o) ≡ option_map (behind ps) (then_parts form o)
then-behind form ps None = refl
then-behind form ps (Some inner) = of (enough.parts form [] inner.rest)
  where
    of : (o : Option Read) → option_map (behind (ps ++ inner.pieces)) o ≡ option_map (behind ps) (option_map (behind inner.pieces) o)
    of None = refl
    of (Some read) = ap (λ qs. Some (record { pieces = qs; rest = read.rest })) (append_assoc ps inner.pieces read.pieces)

-- the innermost of open strings, with the braces that are open behind a piece
abbrev pub braced : List Suspended → List ℕ → List Suspended
braced [] text = []
braced (string ∷ around) text = record string { braces = braces_behind string.braces text } ∷ around

-- the text ends the interpolation of the innermost of open strings
abbrev pub ends_interpolation : List Suspended → List ℕ → Bool
ends_interpolation [] text = false
ends_interpolation (string ∷ around) text = begins text (codes "}") && string.braces == 0

-- The next pieces are done.
pub next-step : (strings : List Suspended) (done : List Spelled) (byte : ℕ) (text : List ℕ) → ends_interpolation strings (byte ∷ text) ≡ false
    → resumed strings done (byte ∷ text) ≡ resumed (braced strings (byte ∷ text)) (done ++ (next_at enough false (byte ∷ text)).pieces) (next_at enough false (byte ∷ text)).rest
unfolding resumed
next-step [] done byte text h =
    ap (λ ps. done ++ ps) (behind-step byte text) ∙ sym (append_assoc done (next_at enough false (byte ∷ text)).pieces (pieces_behind (next_at enough false (byte ∷ text)).rest))
next-step (string ∷ around) done byte text h =
    let next = next_at enough false (byte ∷ text) in
    let braces = braces_behind string.braces (byte ∷ text) in
    let step : enough.expression string.braces (byte ∷ text) ≡ option_map (behind next.pieces) (enough.expression braces next.rest) = expression-step string.braces (byte ∷ text) ∙ rw h refl in
    ap (λ o. finished (resumed around) string done (then_parts string.form o)) step
    ∙ ap (finished (resumed around) string done) (then-behind string.form next.pieces (enough.expression braces next.rest))
    ∙ finished-behind (resumed around) string done next.pieces (then_parts string.form (enough.expression braces next.rest))
    ∙ regardless next.pieces (then_parts string.form (enough.expression braces next.rest)) braces
  where
    regardless : (ps : List Spelled) (o : Option Read) (braces : ℕ) → finished (resumed around) string (done ++ ps) o ≡ finished (resumed around) (record string { braces = braces }) (done ++ ps) o
    regardless ps None braces = refl
    regardless ps (Some read) braces = refl

-- a piece that is no string
pub piece-step : (strings : List Suspended) (done : List Spelled) (byte : ℕ) (text : List ℕ) → ends_interpolation strings (byte ∷ text) ≡ false → string_form (byte ∷ text) ≡ None
    → resumed strings done (byte ∷ text) ≡ (let piece = piece_at false (byte ∷ text) in resumed (braced strings (byte ∷ text)) (done ++ (piece.class, take piece.size (byte ∷ text)) ∷ []) (drop piece.size (byte ∷ text)))
piece-step strings done byte text h none =
    next-step strings done byte text h ∙ ap (λ read. resumed (braced strings (byte ∷ text)) (done ++ read.pieces) read.rest) (of (string_form (byte ∷ text)) none)
  where
    of : (o : Option Form) → o ≡ None → option_map_or (λ form. string_at enough form (byte ∷ text)) o (read_piece false (byte ∷ text)) ≡ read_piece false (byte ∷ text)
    of None e = refl
    of (Some form) e = absurd (cc)

-- a string that begins
pub string-step : (strings : List Suspended) (done : List Spelled) (byte : ℕ) (text : List ℕ) (form : Form) → ends_interpolation strings (byte ∷ text) ≡ false → string_form (byte ∷ text) ≡ Some form
    → resumed strings done (byte ∷ text) ≡ (let reach = within_reach form (byte ∷ text) in
    resumed_within (record { form = form; before = done; reach = reach; beyond = drop (length reach) (byte ∷ text); braces = 0 }) (braced strings (byte ∷ text)) done (opening_of form) (drop (length (opening_of form)) reach))
string-step strings done byte text form h some =
    next-step strings done byte text h ∙ ap (λ read. resumed (braced strings (byte ∷ text)) (done ++ read.pieces) read.rest) (of (string_form (byte ∷ text)) some)
    ∙ begun (resumed (braced strings (byte ∷ text))) (within_reach form (byte ∷ text)) (drop (length (within_reach form (byte ∷ text))) (byte ∷ text)) (enough.parts form (opening_of form) (drop (length (opening_of form)) (within_reach form (byte ∷ text))))
  where
    of : (o : Option Form) → o ≡ Some form → option_map_or (λ form. string_at enough form (byte ∷ text)) o (read_piece false (byte ∷ text)) ≡ string_at enough form (byte ∷ text)
    of None e = absurd (cc)
    of (Some f) e = let same : f ≡ form = cc in ap (λ x. string_at enough x (byte ∷ text)) same

    begun : (around : List Spelled → List ℕ → List Spelled) (reach beyond : List ℕ) (o : Option Read)
        → (let read : Read = option_map_or (λ read. record { pieces = read.pieces; rest = read.rest ++ beyond }) o (record { pieces = (UnterminatedString, reach) ∷ []; rest = beyond }) in around (done ++ read.pieces) read.rest)
        ≡ finished around (record { form = form; before = done; reach = reach; beyond = beyond; braces = 0 }) done o
    begun around reach beyond None = refl
    begun around reach beyond (Some read) = refl

-- the `}` of an interpolation
pub closing-step : (string : Suspended) (around : List Suspended) (done : List Spelled) (byte : ℕ) (text : List ℕ) → ends_interpolation (string ∷ around) (byte ∷ text) ≡ true
    → resumed (string ∷ around) done (byte ∷ text) ≡ resumed_within string around (done ++ (InterpolationClosing, codes "}") ∷ []) [] text
unfolding resumed
closing-step string around done byte text h =
    let step : enough.expression string.braces (byte ∷ text) ≡ Some (record { pieces = (InterpolationClosing, codes "}") ∷ []; rest = text }) = expression-step string.braces (byte ∷ text) ∙ rw h refl in
    ap (λ o. finished (resumed around) string done (then_parts string.form o)) step
    ∙ finished-behind (resumed around) string done ((InterpolationClosing, codes "}") ∷ []) (enough.parts string.form [] text)

-- an interpolation whose text ends
pub ending-step : (string : Suspended) (around : List Suspended) (done : List Spelled)
    → resumed (string ∷ around) done [] ≡ resumed around (string.before ++ (UnterminatedString, string.reach) ∷ []) string.beyond
unfolding resumed
ending-step string around done = ap (λ o. finished (resumed around) string done (then_parts string.form o)) (expression-step string.braces [])

-- Within a string, behind its plain bytes.

plain-done : (string : Suspended) (around : List Suspended) (done : List Spelled) (begun text : List ℕ) (size : ℕ) → 1 ≤ length string.form.quotes → size ≡ plain_size string.form text
    → resumed_within string around done begun text ≡ finished (resumed around) string done (after_plain enough string.form begun (take size text) (drop size text))
plain-done string around done begun text size some is =
    ap (finished (resumed around) string done) (parts-step string.form begun text some)
    ∙ ap (λ n. finished (resumed around) string done (after_plain enough string.form begun (take n text) (drop n text))) (sym is)

-- what follows the plain bytes, by the tests for it
ends-row : (ends : Bool) (x y : Option Read) → ends ≡ true → (if ends then x else y) ≡ x
ends-row true x y e = refl
ends-row false x y e = absurd (cc)

expression-chosen : (ends raw opens : Bool) (x a b : Option Read) (f : Option Read → Option Read) → ends ≡ false → raw ≡ false → opens ≡ true
    → (if ends then x else f (if raw then None else (if opens then a else b))) ≡ f a
expression-chosen false false true x a b f e g h = refl
expression-chosen false false false x a b f e g h = absurd (cc)
expression-chosen false true opens x a b f e g h = absurd (cc)
expression-chosen true raw opens x a b f e g h = absurd (cc)

name-chosen : (ends raw opens named : Bool) (x a b : Option Read) (f : Option Read → Option Read) → ends ≡ false → raw ≡ false → opens ≡ false → named ≡ true
    → (if ends then x else f (if raw then None else (if opens then a else (if named then b else None)))) ≡ f b
name-chosen false false false true x a b f e g h k = refl
name-chosen false false false false x a b f e g h k = absurd (cc)
name-chosen false false true named x a b f e g h k = absurd (cc)
name-chosen false true opens named x a b f e g h k = absurd (cc)
name-chosen true raw opens named x a b f e g h k = absurd (cc)

-- its quotes
pub quotes-step : (string : Suspended) (around : List Suspended) (done : List Spelled) (begun text : List ℕ) (size : ℕ) → 1 ≤ length string.form.quotes → size ≡ plain_size string.form text
    → begins (drop size text) string.form.quotes ≡ true
    → resumed_within string around done begun text
    ≡ resumed around (done ++ (last_class begun, begun ++ take size text ++ string.form.quotes) ∷ []) (drop (length string.form.quotes) (drop size text) ++ string.beyond)
quotes-step string around done begun text size some is ends =
    let row : after_plain enough string.form begun (take size text) (drop size text)
    ≡ Some (record { pieces = (last_class begun, begun ++ take size text ++ string.form.quotes) ∷ []; rest = drop (length string.form.quotes) (drop size text) }) =
    ends-row (begins (drop size text) string.form.quotes) _ _ ends in
    plain-done string around done begun text size some is ∙ ap (finished (resumed around) string done) row

-- an interpolation of an expression
pub opening-step : (string : Suspended) (around : List Suspended) (done : List Spelled) (begun text : List ℕ) (size : ℕ) → 1 ≤ length string.form.quotes → size ≡ plain_size string.form text
    → begins (drop size text) string.form.quotes ≡ false → string.form.raw ≡ false → begins (drop size text) (codes "${") ≡ true
    → resumed_within string around done begun text
    ≡ resumed (record string { braces = 0 } ∷ around) ((done ++ part_before begun (take size text)) ++ (InterpolationOpening, codes "${") ∷ []) (drop 2 (drop size text))
unfolding resumed
opening-step string around done begun text size some is ends raw opens =
    let row : after_plain enough string.form begun (take size text) (drop size text) ≡ option_map (behind (part_before begun (take size text))) (expression_row enough string.form (drop size text)) =
    expression-chosen (begins (drop size text) string.form.quotes) string.form.raw (begins (drop size text) (codes "${")) _ (expression_row enough string.form (drop size text)) _ (option_map (behind (part_before begun (take size text)))) ends raw opens in
    plain-done string around done begun text size some is
    ∙ ap (finished (resumed around) string done) row
    ∙ finished-behind (resumed around) string done (part_before begun (take size text)) (expression_row enough string.form (drop size text))
    ∙ of (enough.expression 0 (drop 2 (drop size text)))
  where
    behind-all : (inner : Read) (o : Option Read)
        → finished (resumed around) string (done ++ part_before begun (take size text)) (option_map (behind ((InterpolationOpening, codes "${") ∷ inner.pieces)) o)
        ≡ finished (resumed around) (record string { braces = 0 }) ((done ++ part_before begun (take size text)) ++ (InterpolationOpening, codes "${") ∷ []) (option_map (behind inner.pieces) o)
    behind-all inner None = refl
    behind-all inner (Some read) = ap (λ d. resumed around d (read.rest ++ string.beyond)) (sym (append_assoc (done ++ part_before begun (take size text)) ((InterpolationOpening, codes "${") ∷ []) (inner.pieces ++ read.pieces)))

    of : (o : Option Read)
        → finished (resumed around) string (done ++ part_before begun (take size text))
        (option_and_then (λ inner. option_map (behind ((InterpolationOpening, codes "${") ∷ inner.pieces)) (enough.parts string.form [] inner.rest)) o)
        ≡ finished (resumed around) (record string { braces = 0 }) ((done ++ part_before begun (take size text)) ++ (InterpolationOpening, codes "${") ∷ []) (then_parts string.form o)
    of None = refl
    of (Some inner) = behind-all inner (enough.parts string.form [] inner.rest)

-- an interpolation by name
pub name-step : (string : Suspended) (around : List Suspended) (done : List Spelled) (begun text : List ℕ) (size : ℕ) → 1 ≤ length string.form.quotes → size ≡ plain_size string.form text
    → begins (drop size text) string.form.quotes ≡ false → string.form.raw ≡ false → begins (drop size text) (codes "${") ≡ false → begins_name (drop size text) ≡ true
    → resumed_within string around done begun text ≡ (let name = name_size (drop 1 (drop size text)) in
    resumed_within string around ((done ++ part_before begun (take size text)) ++ (InterpolationMark, codes "$") ∷ (Word, take name (drop 1 (drop size text))) ∷ []) [] (drop (1 + name) (drop size text)))
name-step string around done begun text size some is ends raw opens named =
    let row : after_plain enough string.form begun (take size text) (drop size text) ≡ option_map (behind (part_before begun (take size text))) (name_row enough string.form (drop size text)) =
    name-chosen (begins (drop size text) string.form.quotes) string.form.raw (begins (drop size text) (codes "${")) (begins_name (drop size text)) _ _ (name_row enough string.form (drop size text)) (option_map (behind (part_before begun (take size text)))) ends raw opens named in
    plain-done string around done begun text size some is
    ∙ ap (finished (resumed around) string done) row
    ∙ finished-behind (resumed around) string done (part_before begun (take size text)) (name_row enough string.form (drop size text))
    ∙ finished-behind (resumed around) string (done ++ part_before begun (take size text)) ((InterpolationMark, codes "$") ∷ (Word, take (name_size (drop 1 (drop size text))) (drop 1 (drop size text))) ∷ [])
    (enough.parts string.form [] (drop (1 + name_size (drop 1 (drop size text))) (drop size text)))

-- nothing, since the text ends
pub never-step : (string : Suspended) (around : List Suspended) (done : List Spelled) (begun text : List ℕ) (size : ℕ) → 1 ≤ length string.form.quotes → size ≡ plain_size string.form text
    → begins (drop size text) string.form.quotes ≡ false → (string.form.raw ≡ false → (begins (drop size text) (codes "${") ≡ false) × (begins_name (drop size text) ≡ false))
    → resumed_within string around done begun text ≡ resumed around (string.before ++ (UnterminatedString, string.reach) ∷ []) string.beyond
never-step string around done begun text size some is ends neither =
    plain-done string around done begun text size some is ∙ rw ends (of string.form.raw neither)
  where
    of : (raw : Bool) → (raw ≡ false → (begins (drop size text) (codes "${") ≡ false) × (begins_name (drop size text) ≡ false))
        → finished (resumed around) string done (option_map (behind (part_before begun (take size text)))
        (if raw then None
        else (if begins (drop size text) (codes "${") then expression_row enough string.form (drop size text)
        else (if begins_name (drop size text) then name_row enough string.form (drop size text) else None))))
        ≡ resumed around (string.before ++ (UnterminatedString, string.reach) ∷ []) string.beyond
    of true h = refl
    of false h = let both : (begins (drop size text) (codes "${") ≡ false) × (begins_name (drop size text) ≡ false) = h refl in rw (both.0, both.1) refl
