-- A lexeme is cut again where the text goes on alike.
use Rattle.std.proofs.Common.{◌≡◌, ℕ, suc, ◌+◌, ◌≤◌, Bool, true, false, List, [], ◌∷◌, ◌++◌, length, drop, nat_lt, codes, if◌then◌else◌, Option, Some, None, refl, sym, ap, subst, ◌∙◌, arith}
use Rattle.std.specs.List.{list_all}
use Rattle.std.specs.Option.{option_map_or}
use Rattle.std.proofs.lemmas.Bool.{and_parts, ltb-false}
use Rattle.dart_scan.specs.Characters.{is_blank, is_within_line}
use Rattle.dart_scan.specs.Lexemes.{begins, run}
use Rattle.dart_scan.specs.Comments.{comment_size}
use Rattle.dart_scan.specs.Strings.{Form, opening_of, forms, first_form, string_form}
use Rattle.dart_scan.specs.Pieces.{comment_piece, lexeme_at, piece_at}
use Rattle.dart_scan.specs.Scanned.{is_gap}
use Rattle.dart_scan.specs.declared.piece.Class.TheVariants.{Gap, UnterminatedComment}
use Rattle.dart_scan.specs.declared.piece.Piece.{Piece}
use Rattle.tree_print.proofs.Alike.{Alike, is_solid, alike-behind, run-cons, run-none, begun-alike, unbegun-alike, shared-begins}
use Rattle.tree_print.proofs.Sizes.{lexeme-alike}
use Rattle.tree_print.proofs.Bounds.{lexeme-within}

-- Forms of strings.

-- how long the opening is that was found
abbrev opening_found : Option Form → ℕ
opening_found found = option_map_or (λ form. length (opening_of form)) found 0

forms-alike : (table : List Form) {n : ℕ} (text other : List ℕ) → list_all (λ form. list_all is_solid (opening_of form)) table ≡ true → Alike n text other
    → opening_found (first_form table text) ≤ n → first_form table other ≡ first_form table text
forms-alike [] text other solid a h = refl
forms-alike (form ∷ table) {n = n} text other solid a h =
    let parts = and_parts (list_all is_solid (opening_of form)) (list_all (λ form. list_all is_solid (opening_of form)) table) solid in
    of parts.0 (begins text (opening_of form)) (begins other (opening_of form)) refl refl h (forms-alike table text other parts.1 a)
  where
    of : list_all is_solid (opening_of form) ≡ true → (s s' : Bool) → begins text (opening_of form) ≡ s → begins other (opening_of form) ≡ s'
        → opening_found (if s then Some form else first_form table text) ≤ n
        → (opening_found (first_form table text) ≤ n → first_form table other ≡ first_form table text)
        → (if s' then Some form else first_form table other) ≡ (if s then Some form else first_form table text)
    of word true true e e' h later = refl
    of word true false e e' h later = let g : begins other (opening_of form) ≡ true = shared-begins (opening_of form) text other a h e in absurd (cc)
    of word false true e e' h later = let g : begins text (opening_of form) ≡ true = (begun-alike (opening_of form) text other word a e').0 in absurd (cc)
    of word false false e e' h later = later h

-- a string of the same form begins, or none
pub form-alike : {n : ℕ} (text other : List ℕ) → Alike n text other → opening_found (string_form text) ≤ n → string_form other ≡ string_form text
form-alike text other a h = forms-alike forms text other refl a h

pub unformed-alike : {n : ℕ} (text other : List ℕ) → Alike n text other → string_form text ≡ None → string_form other ≡ None
unformed-alike {n = n} text other a e = form-alike text other a (subst (λ (o : Option Form). opening_found o ≤ n) (sym e) (omega arith)) ∙ e

-- First pieces.

-- a piece that is a lexeme is the longest one
record IsLongest (text : List ℕ) : Type 0 where
  solid : nat_lt 0 (run is_blank text) ≡ false
  no_line : begins text (codes "//") ≡ false
  no_comment : begins text (codes "/*") ≡ false

-- the choice of a piece
abbrev choice : (white line block : Bool) → (a b c d : Piece) → Piece
choice white line block a b c d = if white then a else (if line then b else (if block then c else d))

abbrev blank_piece : List ℕ → Piece
blank_piece text = record { class = Gap; size = run is_blank text }

abbrev line_piece : List ℕ → Piece
line_piece text = record { class = Gap; size = 2 + run is_within_line (drop 2 text) }

comment-gap : (text : List ℕ) → is_gap (comment_piece text).class ≡ true
comment-gap text = of (comment_size (drop 2 text))
  where
    of : (o : Option ℕ) → is_gap (option_map_or {U = Piece} (λ size. record { class = Gap; size = size }) o (record { class = UnterminatedComment; size = length text })).class ≡ true
    of None = refl
    of (Some n) = refl

longest : (text : List ℕ) → is_gap (piece_at false text).class ≡ false → IsLongest text
longest text e = of (nat_lt 0 (run is_blank text)) (begins text (codes "//")) (begins text (codes "/*")) refl refl refl e
  where
    of : (s t u : Bool) → nat_lt 0 (run is_blank text) ≡ s → begins text (codes "//") ≡ t → begins text (codes "/*") ≡ u
        → is_gap (choice s t u (blank_piece text) (line_piece text) (comment_piece text) (lexeme_at text)).class ≡ false → IsLongest text
    of true t u p q r e = absurd (cc)
    of false true u p q r e = absurd (cc)
    of false false true p q r e = let gap = comment-gap text in absurd (cc)
    of false false false p q r e = record { solid = p; no_line = q; no_comment = r }

-- then the piece is the longest lexeme
taken : (text : List ℕ) → IsLongest text → piece_at false text ≡ lexeme_at text
taken text is =
    ap (λ (s : Bool). choice s (begins text (codes "//")) (begins text (codes "/*")) (blank_piece text) (line_piece text) (comment_piece text) (lexeme_at text)) is.solid
    ∙ ap (λ (s : Bool). choice false s (begins text (codes "/*")) (blank_piece text) (line_piece text) (comment_piece text) (lexeme_at text)) is.no_line
    ∙ ap (λ (s : Bool). choice false false s (blank_piece text) (line_piece text) (comment_piece text) (lexeme_at text)) is.no_comment

pub taken-lexeme : (text : List ℕ) → is_gap (piece_at false text).class ≡ false → piece_at false text ≡ lexeme_at text
taken-lexeme text e = taken text (longest text e)

-- a lexeme is no longer than the text
pub taken-within : (text : List ℕ) → 1 ≤ length text → is_gap (piece_at false text).class ≡ false → (piece_at false text).size ≤ length text
taken-within text some e = let same = ap (λ (p : Piece). p.size) (taken text (longest text e)) in omega (arith, same, lexeme-within text some)

-- where a text begins with no white space, and when
pub unblank : (first : ℕ) (text : List ℕ) → is_blank first ≡ false → nat_lt 0 (run is_blank (first ∷ text)) ≡ false
unblank first text e = ap (nat_lt 0) (run-none is_blank first text e)

pub first-solid : (first : ℕ) (text : List ℕ) → nat_lt 0 (run is_blank (first ∷ text)) ≡ false → is_blank first ≡ false
first-solid first text e = of (is_blank first) refl (sym (ap (nat_lt 0) (run-cons is_blank first text)) ∙ e)
  where
    of : (s : Bool) → is_blank first ≡ s → nat_lt 0 (if s then suc (run is_blank text) else 0) ≡ false → s ≡ false
    of true h e = absurd (omega (arith, ltb-false 0 (suc (run is_blank text)) e))
    of false h e = refl

-- A lexeme that is cut from a text is cut from one that goes on alike behind it.
pub lexeme-again : (first : ℕ) (bytes text other : List ℕ) → Alike 0 text other → is_gap (piece_at false (first ∷ (bytes ++ text))).class ≡ false → (piece_at false (first ∷ (bytes ++ text))).size ≡ length (first ∷ bytes)
    → piece_at false (first ∷ (bytes ++ other)) ≡ piece_at false (first ∷ (bytes ++ text))
lexeme-again first bytes text other a lexeme size =
    let old : List ℕ = first ∷ (bytes ++ text) in
    let new : List ℕ = first ∷ (bytes ++ other) in
    let shared : Alike (length (first ∷ bytes)) old new = alike-behind (first ∷ bytes) a in
    let is : IsLongest old = longest old lexeme in
    let is' : IsLongest new = record {
      solid = unblank first (bytes ++ other) (first-solid first (bytes ++ text) is.solid);
      no_line = unbegun-alike (codes "//") old new refl shared is.no_line;
      no_comment = unbegun-alike (codes "/*") old new refl shared is.no_comment;
    } in
    let short : (lexeme_at old).size ≡ length (first ∷ bytes) = ap (λ (p : Piece). p.size) (sym (taken old is)) ∙ size in
    taken new is' ∙ lexeme-alike old new shared (omega (arith, short)) ∙ sym (taken old is)

-- the byte with which a lexeme begins is no white space
pub lexeme-solid : (first : ℕ) (text : List ℕ) → is_gap (piece_at false (first ∷ text)).class ≡ false → is_blank first ≡ false
lexeme-solid first text e = first-solid first text (longest (first ∷ text) e).solid

-- one byte of white space before a lexeme is a gap
pub white-piece : (text : List ℕ) → run is_blank text ≡ 1 → piece_at false text ≡ record { class = Gap; size = 1 }
white-piece text e = ap (λ (n : ℕ). choice (nat_lt 0 n) (begins text (codes "//")) (begins text (codes "/*")) (record { class = Gap; size = n }) (line_piece text) (comment_piece text) (lexeme_at text)) e
