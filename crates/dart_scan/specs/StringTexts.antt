-- Every piece of a text in UTF-8 is a text.
use Rattle.std.proofs.Common.{◌≡◌, ℕ, zero, suc, ◌+◌, ◌-◌, ◌<◌, ◌==◌, Bool, true, false, ◌&&◌, List, [], ◌∷◌, ◌++◌, length, take, drop, take_while, get_or, min, nat_lt, codes, Option, Some, None, option_map, option_and_then, if◌then◌else◌, refl, sym, subst, arith, inl, inr, length-drop}
use Rattle.std.specs.List.{list_all}
use Rattle.std.specs.Prelude.{All}
use Rattle.std.specs.Option.{option_map_or}
use Rattle.std.specs.Str.{IsUtf8, IsCharBoundary}
use Rattle.std.proofs.lemmas.Bool.{cond_both, and_parts, or_cases, cases_lt, eqb-true, ltb-true}
use Rattle.std.proofs.lemmas.List.{get_or-take, get_or-drop, length-take}
use Rattle.std.proofs.lemmas.Str.{IsUtf8-nil, IsUtf8-append, IsUtf8-drop, IsUtf8-from_ascii, IsCharBoundary-from_drop}
use Rattle.dart_scan.specs.Characters.{is_within_line}
use Rattle.dart_scan.specs.Lexemes.{begins, run}
use Rattle.dart_scan.specs.Strings.{Form, opening_of, forms, first_form, string_form, within_reach, is_name_start, is_name_part, name_size, begins_name, ends_piece, begins_escape, plain_size}
use Rattle.dart_scan.specs.Pieces.{Spelled, Read, behind, read_piece, piece_at, Fewer, string_at, next_at, part_before, name_row, expression_row, after_plain, parts_row, braces_behind, expression_pieces, within_steps, pieces_within, pieces}
use Rattle.dart_scan.specs.declared.piece.Class.TheVariants.{Word, InterpolationMark, InterpolationOpening, UnterminatedString}
use Rattle.dart_scan.specs.Utf8Lemmas.{IsTextFrom, past_end, front_text, before_ascii, behind_both, IsAsciiClass, all_ascii, begins-text, take_run, starts_are_ascii, parts_are_ascii}
use Rattle.dart_scan.specs.PieceTexts.{named-text, line-text, piece-text}

-- all these pieces are texts
abbrev pub AreTexts : List Spelled → Type 0
AreTexts [] = Unit {0}
AreTexts (piece ∷ more) = IsUtf8 piece.1 × AreTexts more

-- so are pieces that were read, and the rest
abbrev IsTextRead : Read → Type 0
IsTextRead read = AreTexts read.pieces × IsUtf8 read.rest

abbrev IfTextRead : Option Read → Type 0
IfTextRead None = Unit {0}
IfTextRead (Some read) = IsTextRead read

texts-append : (xs ys : List Spelled) → AreTexts xs → AreTexts ys → AreTexts (xs ++ ys)
texts-append [] ys h k = k
texts-append (x ∷ xs) ys h k = (h.0, texts-append xs ys h.1 k)

behind-read : (pieces : List Spelled) (o : Option Read) → AreTexts pieces → IfTextRead o → IfTextRead (option_map (behind pieces) o)
behind-read pieces None h k = tt
behind-read pieces (Some read) h k = (texts-append pieces read.pieces h k.0, k.1)

one_low : (byte : ℕ) → byte < 128 → (i : ℕ) → get_or (byte ∷ []) i 0 < 128
one_low byte h zero = h
one_low byte h (suc i) = omega arith

ascii-text : (bytes : List ℕ) → all_ascii bytes ≡ true → IsUtf8 bytes
ascii-text [] a = IsUtf8-nil
ascii-text (byte ∷ bytes) a =
    let low = and_parts _ _ a in
    IsUtf8-append (byte ∷ []) bytes (IsUtf8-from_ascii (byte ∷ []) (one_low byte (ltb-true _ _ low.0))) (ascii-text bytes low.1)

-- the quotes of a form are ASCII, and there is one
abbrev fine : Form → Bool
fine form = all_ascii form.quotes && nat_lt 0 (length form.quotes)

abbrev IfForm : Option Form → List ℕ → Type 0
IfForm None text = Unit {0}
IfForm (Some form) text = (fine form ≡ true) × (begins text (opening_of form) ≡ true)

first_form-fine : (table : List Form) (text : List ℕ) → list_all fine table ≡ true → IfForm (first_form table text) text
first_form-fine [] text a = tt
first_form-fine (form ∷ more) text a =
    let all = and_parts _ _ a in
    cond_both (begins text (opening_of form)) _ _ (λ o. IfForm o text) (λ h. (all.0, h)) (λ _. first_form-fine more text all.1)

string_form-fine : (text : List ℕ) → IfForm (string_form text) text
string_form-fine text = first_form-fine forms text refl

opening-ascii : (form : Form) → fine form ≡ true → all_ascii (opening_of form) ≡ true
opening-ascii form f =
    let quotes = (and_parts _ _ f).0 in cond_both form.raw (114 ∷ form.quotes) form.quotes (λ bytes. all_ascii bytes ≡ true) (λ _. quotes) (λ _. quotes)

-- what may stand behind an opening, within a shorter text
shorter-text : (k n : ℕ) (text : List ℕ) → IsUtf8 (take k text) → IsTextFrom n text → IsTextFrom n (take k text)
shorter-text k n text u back = elim (cases_lt n (length (take k text))) [
  | inl within ↦
      let size : length (take k text) ≡ min k (length text) = length-take k text in
      let place : n < k = omega arith in
      let same : get_or (take k text) n 0 ≡ get_or text n 0 = get_or-take k text n 0 place in
      let boundary : IsCharBoundary text n = IsCharBoundary-from_drop text n (omega arith) back in
      IsUtf8-drop (take k text) n u (omega arith, λ _ high. let lead = boundary.1 (omega arith) (omega arith) in omega arith)
  | inr past ↦ past_end n (take k text) past
]

-- how far a string reaches, and what is behind it; the opening is within it
record Reaches (form : Form) (text : List ℕ) : Type 0 where
  reach : IsUtf8 (within_reach form text)
  beyond : IsUtf8 (drop (length (within_reach form text)) text)
  content : IsUtf8 (drop (length (opening_of form)) (within_reach form text))

reaches-case : (b : Bool) (opening : ℕ) (text : List ℕ) → IsUtf8 text → IsTextFrom opening text
    → (let reach = if b then take_while is_within_line text else text in IsUtf8 reach × IsUtf8 (drop (length reach) text) × IsUtf8 (drop opening reach))
reaches-case true opening text u o =
    let size = run is_within_line text in
    let front : IsUtf8 (take size text) = front_text size text u (line-text text u) in
    let P : List ℕ → Type 0 = λ reach. IsUtf8 reach × IsUtf8 (drop opening reach) in
    let both : P (take_while is_within_line text) = subst P (sym (take_run is_within_line text)) (front, shorter-text size opening text front o) in
    (both.0, line-text text u, both.1)
reaches-case false opening text u o = (u, past_end (length text) text (omega arith), o)

reaches : (form : Form) (text : List ℕ) → fine form ≡ true → begins text (opening_of form) ≡ true → IsUtf8 text → Reaches form text
reaches form text f b u =
    let all = reaches-case (length form.quotes == 1) (length (opening_of form)) text u (begins-text (opening_of form) text (opening-ascii form f) b u) in
    record { reach = all.0; beyond = all.1; content = all.2 }

-- what is read where fewer steps are left
record Sound (fewer : Fewer) : Type 0 where
  parts : (form : Form) (begun text : List ℕ) → fine form ≡ true → IsUtf8 begun → IsUtf8 text → IfTextRead (fewer.parts form begun text)
  expression : (braces : ℕ) (text : List ℕ) → IsUtf8 text → IfTextRead (fewer.expression braces text)

string-case : (o : Option Read) (reach beyond : List ℕ) → IfTextRead o → IsUtf8 reach → IsUtf8 beyond
    → IsTextRead (option_map_or {U = Read} (λ read. record { pieces = read.pieces; rest = read.rest ++ beyond }) o (record { pieces = (UnterminatedString, reach) ∷ []; rest = beyond }))
string-case None reach beyond h u v = ((u, tt), v)
string-case (Some read) reach beyond h u v = (h.0, IsUtf8-append read.rest beyond h.1 v)

string_at-text : (fewer : Fewer) → Sound fewer → (form : Form) (text : List ℕ) → fine form ≡ true → begins text (opening_of form) ≡ true → IsUtf8 text → IsTextRead (string_at fewer form text)
string_at-text fewer sound form text f b u =
    let r = reaches form text f b u in
    string-case _ (within_reach form text) (drop (length (within_reach form text)) text)
    (sound.parts form (opening_of form) (drop (length (opening_of form)) (within_reach form text)) f (ascii-text (opening_of form) (opening-ascii form f)) r.content) r.reach r.beyond

next-case : (fewer : Fewer) → Sound fewer → (first : Bool) (text : List ℕ) (o : Option Form) → IfForm o text → IsUtf8 text → IsTextRead (option_map_or (λ form. string_at fewer form text) o (read_piece first text))
next-case fewer sound first text None h u =
    let back = piece-text first text u in ((front_text (piece_at first text).size text u back, tt), back)
next-case fewer sound first text (Some form) h u = string_at-text fewer sound form text h.0 h.1 u

next-text : (fewer : Fewer) → Sound fewer → (first : Bool) (text : List ℕ) → IsUtf8 text → IsTextRead (next_at fewer first text)
next-text fewer sound first text u = next-case fewer sound first text (string_form text) (string_form-fine text) u

name_starts_are_ascii : IsAsciiClass is_name_start
name_starts_are_ascii byte h = starts_are_ascii byte (and_parts _ _ h).0

name_parts_are_ascii : IsAsciiClass is_name_part
name_parts_are_ascii byte h = parts_are_ascii byte (and_parts _ _ h).0

name-text : (text : List ℕ) → IsUtf8 text → IsTextFrom (name_size text) text
name-text [] u = u
name-text (byte ∷ text) u = named-text is_name_start is_name_part name_starts_are_ascii name_parts_are_ascii byte text u

name_row-text : (fewer : Fewer) → Sound fewer → (form : Form) (text : List ℕ) → fine form ≡ true → begins_name text ≡ true → IsUtf8 text → IfTextRead (name_row fewer form text)
name_row-text fewer sound form text f b u =
    let size = name_size (drop 1 text) in
    let behind_mark : IsUtf8 (drop 1 text) = begins-text (codes "$") text refl (and_parts _ _ b).0 u in
    let behind_name : IsTextFrom size (drop 1 text) = name-text (drop 1 text) behind_mark in
    behind-read ((InterpolationMark, codes "$") ∷ (Word, take size (drop 1 text)) ∷ []) _ (ascii-text (codes "$") refl, (front_text size (drop 1 text) behind_mark behind_name, tt))
    (sound.parts form [] (drop (1 + size) text) f IsUtf8-nil (behind_both 1 size text behind_name))

expression-case : (fewer : Fewer) → Sound fewer → (form : Form) → fine form ≡ true → (o : Option Read) → IfTextRead o
    → IfTextRead (option_and_then (λ inner. option_map (behind ((InterpolationOpening, codes "${") ∷ inner.pieces)) (fewer.parts form [] inner.rest)) o)
expression-case fewer sound form f None h = tt
expression-case fewer sound form f (Some inner) h =
    behind-read ((InterpolationOpening, codes "${") ∷ inner.pieces) _ (ascii-text (codes "${") refl, h.0) (sound.parts form [] inner.rest f IsUtf8-nil h.1)

expression_row-text : (fewer : Fewer) → Sound fewer → (form : Form) (text : List ℕ) → fine form ≡ true → begins text (codes "${") ≡ true → IsUtf8 text → IfTextRead (expression_row fewer form text)
expression_row-text fewer sound form text f b u =
    expression-case fewer sound form f (fewer.expression 0 (drop 2 text)) (sound.expression 0 (drop 2 text) (begins-text (codes "${") text refl b u))

part_before-texts : (begun plain : List ℕ) → IsUtf8 begun → IsUtf8 plain → AreTexts (part_before begun plain)
part_before-texts [] [] u v = tt
part_before-texts [] (byte ∷ bytes) u v = (v, tt)
part_before-texts (byte ∷ bytes) plain u v = (IsUtf8-append (byte ∷ bytes) plain u v, tt)

after_plain-text : (fewer : Fewer) → Sound fewer → (form : Form) (begun plain text : List ℕ) → fine form ≡ true → IsUtf8 begun → IsUtf8 plain → IsUtf8 text → IfTextRead (after_plain fewer form begun plain text)
after_plain-text fewer sound form begun plain text f u v w =
    let quotes = (and_parts _ _ f).0 in
    cond_both (begins text form.quotes) _ _ IfTextRead
    (λ h. ((IsUtf8-append (begun ++ plain) form.quotes (IsUtf8-append begun plain u v) (ascii-text form.quotes quotes), tt), begins-text form.quotes text quotes h w))
    (λ _. behind-read (part_before begun plain) _ (part_before-texts begun plain u v)
    (cond_both form.raw _ _ IfTextRead (λ _. tt)
    (λ _. cond_both (begins text (codes "${")) _ _ IfTextRead (λ h. expression_row-text fewer sound form text f h w)
    (λ _. cond_both (begins_name text) _ _ IfTextRead (λ h. name_row-text fewer sound form text f h w) (λ _. tt)))))

-- the byte at which a piece of a string ends is ASCII
begins-low : (mark : List ℕ) (byte : ℕ) (text : List ℕ) → all_ascii mark ≡ true → 0 < length mark → begins (byte ∷ text) mark ≡ true → byte < 128
begins-low [] byte text a some h = absurd (omega (arith, some))
begins-low (first ∷ mark) byte text a some h =
    let low : first < 128 = ltb-true _ _ (and_parts _ _ a).0 in
    let same : first ≡ byte = eqb-true _ _ (and_parts _ _ h).0 in
    omega arith

ends-low : (form : Form) (byte : ℕ) (text : List ℕ) → fine form ≡ true → ends_piece form (byte ∷ text) ≡ true → byte < 128
ends-low form byte text f h =
    let ok = and_parts _ _ f in
    elim (or_cases _ _ h) [
      | inl quotes ↦ begins-low form.quotes byte text ok.0 (ltb-true _ _ ok.1) quotes
      | inr inside ↦ elim (or_cases _ _ (and_parts _ _ inside).1) [
        | inl opening ↦ begins-low (codes "${") byte text refl (omega arith) opening
        | inr named ↦ begins-low (codes "$") byte text refl (omega arith) (and_parts _ _ named).0
      ]
    ]

abbrev StopsLow : ℕ → List ℕ → Type 0
StopsLow n text = n < length text → get_or text n 0 < 128

stops_further : (a n : ℕ) (text : List ℕ) → StopsLow n (drop a text) → StopsLow (a + n) text
stops_further a n text h within =
    let size : length (drop a text) ≡ length text - a = length-drop a text in
    let same : get_or (drop a text) n 0 ≡ get_or text (a + n) 0 = get_or-drop a text n 0 in
    let low : get_or (drop a text) n 0 < 128 = h (omega arith) in
    omega arith

plain-stops : (form : Form) → fine form ≡ true → (text : List ℕ) → StopsLow (plain_size form text) text
unfolding plain_size
plain-stops form f [] = λ h. absurd (omega (arith, h))
plain-stops form f (byte ∷ []) =
    cond_both (ends_piece form (byte ∷ [])) 0 1 (λ n. StopsLow n (byte ∷ [])) (λ e h. ends-low form byte [] f e) (λ e h. absurd (omega (arith, h)))
plain-stops form f (byte ∷ next ∷ text) =
    let here = byte ∷ next ∷ text in
    cond_both (ends_piece form here) _ _ (λ n. StopsLow n here) (λ e h. ends-low form byte (next ∷ text) f e)
    (λ _. cond_both (begins_escape form byte) _ _ (λ n. StopsLow n here)
    (λ _. stops_further 2 (plain_size form text) here (plain-stops form f text)) (λ _. stops_further 1 (plain_size form (next ∷ text)) here (plain-stops form f (next ∷ text))))

parts_row-text : (fewer : Fewer) → Sound fewer → (form : Form) (begun text : List ℕ) → fine form ≡ true → IsUtf8 begun → IsUtf8 text → IfTextRead (parts_row fewer form begun text)
parts_row-text fewer sound form begun text f u v =
    let size = plain_size form text in
    let back : IsTextFrom size text = before_ascii size text v (plain-stops form f text) in
    after_plain-text fewer sound form begun (take size text) (drop size text) f u (front_text size text v back) back

expression_pieces-text : (fewer : Fewer) → Sound fewer → (braces : ℕ) (text : List ℕ) → IsUtf8 text → IfTextRead (expression_pieces fewer braces text)
expression_pieces-text fewer sound braces [] u = tt
expression_pieces-text fewer sound braces (byte ∷ text) u =
    let next = next_at fewer false (byte ∷ text) in
    let read = next-text fewer sound false (byte ∷ text) u in
    cond_both (begins (byte ∷ text) (codes "}") && braces == 0) _ _ IfTextRead
    (λ h. ((ascii-text (codes "}") refl, tt), begins-text (codes "}") (byte ∷ text) refl (and_parts _ _ h).0 u))
    (λ _. behind-read next.pieces _ read.0 (sound.expression (braces_behind braces (byte ∷ text)) next.rest read.1))

steps-sound : (steps : ℕ) → Sound (within_steps steps)
unfolding within_steps
steps-sound zero = record { parts = λ form begun text f u v. tt; expression = λ braces text u. tt }
steps-sound (suc steps) = record {
  parts = parts_row-text (within_steps steps) (steps-sound steps);
  expression = expression_pieces-text (within_steps steps) (steps-sound steps);
}

pieces_within-texts : (steps : ℕ) (first : Bool) (text : List ℕ) → IsUtf8 text → AreTexts (pieces_within steps first text)
unfolding pieces_within
pieces_within-texts zero first text u = tt
pieces_within-texts (suc steps) first [] u = tt
pieces_within-texts (suc steps) first (byte ∷ text) u =
    let next = next_at (within_steps (suc steps)) first (byte ∷ text) in
    let read = next-text (within_steps (suc steps)) (steps-sound (suc steps)) first (byte ∷ text) u in
    texts-append next.pieces (pieces_within steps false next.rest) read.0 (pieces_within-texts steps false next.rest read.1)

pub pieces-texts : (text : List ℕ) → IsUtf8 text → AreTexts (pieces text)
unfolding pieces
pieces-texts text u = pieces_within-texts (length text) true text u

-- the same, of each piece
pub texts-all : (spelled : List Spelled) → AreTexts spelled → All (λ piece. IsUtf8 piece.1) spelled
texts-all [] h k d within = absurd (omega (arith, within))
texts-all (piece ∷ more) h zero d within = h.0
texts-all (piece ∷ more) h (suc k) d within = texts-all more h.1 k d (omega (arith, within))
