-- Each step of a cut leads to the same pieces.
use Rattle.std.proofs.Common.{◌≡◌, ℕ, zero, suc, ◌+◌, ◌-◌, ◌*◌, ◌≤◌, ◌<◌, ◌==◌, ◌&&◌, Bool, true, false, List, [], ◌∷◌, ◌++◌, length, take, drop, codes, if◌then◌else◌, Some, None, refl, sym, ap, subst, ◌∙◌, arith, length-append, length-drop, length-take, append_assoc, append-nil}
use Rattle.std.specs.Prelude.{All, slice_range}
use Rattle.std.proofs.lemmas.List.{take-append-le, take_all, drop-drop}
use Rattle.std.proofs.lemmas.List.Elements.{All-push, All-take}
use Rattle.std.proofs.lemmas.List.Sums.{sum_by_push, sum_by-take-le}
use Rattle.std.proofs.Math.Seq.{take-add, take-append_seam}
use Rattle.dart_scan.specs.declared.piece.Class.{Class}
use Rattle.dart_scan.specs.declared.piece.Class.TheVariants.{Word, StringLiteral, StringClosing, UnterminatedString, InterpolationMark, InterpolationOpening, InterpolationClosing}
use Rattle.dart_scan.specs.declared.piece.Piece.{Piece}
use Rattle.dart_scan.specs.declared.cut.form.StringForm.{StringForm}
use Rattle.dart_scan.specs.declared.cut.strings.OpenString.{OpenString}
use Rattle.dart_scan.specs.declared.cut.line.Line.{Line}
use Rattle.dart_scan.specs.declared.cut.cutting.Within.TheVariants.{InCode, InString}
use Rattle.dart_scan.specs.Lexemes.{begins}
use Rattle.dart_scan.specs.Strings.{Form, opening_of, string_form, within_reach, name_size, is_interpolated, plain_size}
use Rattle.dart_scan.specs.Pieces.{Spelled, spelled, piece_at, braces_behind, last_class, part_before, pieces_within, pieces}
use Rattle.dart_scan.specs.Openings.{shape}
use Rattle.dart_scan.specs.Endings.{Names, NoneBegins}
use Rattle.dart_scan.specs.Suspended.{Suspended, resumed, resumed_within}
use Rattle.dart_scan.specs.Cutting.{Cut, rest_of, size_of, Ends, suspended, all_suspended, to_come_within, to_come, Lies, Nested, Stands, Sound, steps_left, Steps, IsDone, added, continued, passed, entered, abandoned, closed, with_part, interpolated, named, IsCode}
use Rattle.dart_scan.specs.FormLemmas.{begins-split, Opens, opens, Reaches, reaches}
use Rattle.dart_scan.specs.StepLemmas.{opening-some, named-parts}
use Rattle.dart_scan.specs.ResumeLemmas.{braced, ends_interpolation, piece-step, string-step, closing-step, ending-step, quotes-step, opening-step, name-step, never-step}
use Rattle.dart_scan.proofs.RangeLemmas.{range-length, range-drop, range-take, range-join, range-none, front-is, spelled-push}
use Rattle.dart_scan.proofs.GrowthLemmas.{same-front, all-same, nested-same, nested-within, Counted, Grows, grows-added, grows-twice, grows-part, part-at, part-text, part-end, part-line}

-- What is known of a cut.

pub counted : (cut : Cut) → Sound cut → Counted cut
counted cut s = record { pieces = s.pieces; some = s.some }

-- a cut whose next piece stands in code
record CodeAt (cut : Cut) (braces : ℕ) : Type 0 where
  sound : Sound cut
  here : cut.within ≡ InCode braces
  few : braces ≤ cut.at
  nested : Nested cut.text cut.pieces cut.end cut.around
  within : cut.end ≤ length cut.text
  size : length (rest_of cut) ≡ cut.end - cut.at
  comes : to_come cut ≡ to_come_within (InCode braces) cut
  left : steps_left cut.within cut ≡ 2 * (length cut.text - cut.at) + length cut.around

code-at : (cut : Cut) (braces : ℕ) → Sound cut → cut.within ≡ InCode braces → CodeAt cut braces
code-at cut braces s e =
    let stands : Stands (InCode braces) cut = subst (λ w. Stands w cut) e s.stands in
    record {
      sound = s;
      here = e;
      few = stands.0;
      nested = stands.1;
      within = s.inside;
      size = range-length cut.text cut.at cut.end s.within s.inside;
      comes = ap (λ w. to_come_within w cut) e;
      left = ap (λ w. steps_left w cut) e;
    }

-- a cut whose next piece stands in a string
record StringAt (cut : Cut) (string : OpenString) (begun : ℕ) : Type 0 where
  sound : Sound cut
  known : cut.at + begun ≤ cut.end
  lies : Lies cut.pieces cut.end string
  around : Nested cut.text (take string.pieces cut.pieces) string.outside cut.around
  nested : Nested cut.text cut.pieces cut.end (string ∷ cut.around)
  within : cut.end ≤ length cut.text
  size : length (rest_of cut) ≡ cut.end - cut.at
  comes : to_come cut ≡ to_come_within (InString string begun) cut
  left : steps_left cut.within cut ≡ 2 * (length cut.text - (cut.at + begun)) + length cut.around + 1

string-at : (cut : Cut) (string : OpenString) (begun : ℕ) → Sound cut → cut.within ≡ InString string begun → StringAt cut string begun
unfolding Nested
string-at cut string begun s e =
    let stands : Stands (InString string begun) cut = subst (λ w. Stands w cut) e s.stands in
    record {
      sound = s;
      known = stands.0;
      lies = stands.1.0;
      around = stands.1.1;
      nested = stands.1;
      within = s.inside;
      size = range-length cut.text cut.at cut.end s.within s.inside;
      comes = ap (λ w. to_come_within w cut) e;
      left = ap (λ w. steps_left w cut) e;
    }

pub rest-size : (cut : Cut) → Sound cut → length (rest_of cut) ≡ cut.end - cut.at
rest-size cut s = range-length cut.text cut.at cut.end s.within s.inside

pub braces-within : (cut : Cut) (braces : ℕ) → Sound cut → cut.within ≡ InCode braces → braces ≤ cut.at
braces-within cut braces s e = (code-at cut braces s e).few

pub innermost : (old : Cut) (string : OpenString) (around : List OpenString) (braces : ℕ) → Sound old → old.within ≡ InCode braces → old.around ≡ string ∷ around → string.start < old.end
unfolding Nested
innermost old string around braces s e is =
    let nested : Nested old.text old.pieces old.end (string ∷ around) = subst (λ o. Nested old.text old.pieces old.end o) is (code-at old braces s e).nested in
    nested.0.forward

-- what is open in a string begins before its end
pub begins-before : (cut : Cut) (string : OpenString) (begun : ℕ) → Sound cut → cut.within ≡ InString string begun → string.start < cut.end
begins-before cut string begun s e = (string-at cut string begun s e).lies.forward

-- An interpolation ends here, or not.

and-both : (a b : Bool) → a ≡ true → b ≡ true → (a && b) ≡ true
and-both true b e f = f
and-both false b e f = absurd (cc)

goes-on : (text : List ℕ) (pieces : List Piece) (end braces : ℕ) (opened : List OpenString) (rest : List ℕ) → (begins rest (codes "}") ≡ true → braces ≡ 0 → opened ≡ [])
    → ends_interpolation (all_suspended text pieces end braces opened) rest ≡ false
unfolding all_suspended
goes-on text pieces end braces [] rest h = refl
goes-on text pieces end zero (string ∷ around) rest h = of (begins rest (codes "}")) refl
  where
    of : (b : Bool) → begins rest (codes "}") ≡ b → (b && true) ≡ false
    of true e = absurd (nothing (h e refl))
      where
        nothing : string ∷ around ≡ [] → ⊥
        nothing e = absurd (cc)
    of false e = refl
goes-on text pieces end (suc braces) (string ∷ around) rest h =
    let test : (suc braces == 0) ≡ false = grind arith in
    rw test (of (begins rest (codes "}")))
  where
    of : (b : Bool) → (b && false) ≡ false
    of true = refl
    of false = refl

braced-all : (text : List ℕ) (pieces : List Piece) (end braces : ℕ) (opened : List OpenString) (rest : List ℕ)
    → braced (all_suspended text pieces end braces opened) rest ≡ all_suspended text pieces end (braces_behind braces rest) opened
unfolding all_suspended
braced-all text pieces end braces [] rest = refl
braced-all text pieces end braces (string ∷ around) rest = refl

braces-few : (braces : ℕ) (rest : List ℕ) → braces_behind braces rest ≤ braces + 1
braces-few braces rest = of (begins rest (codes "{")) (begins rest (codes "}"))
  where
    of : (a b : Bool) → (if a then braces + 1 else (if b then braces - 1 else braces)) ≤ braces + 1
    of true b = omega arith
    of false true = omega arith
    of false false = omega arith

-- Steps in code.

piece-next : (strings : List Suspended) (done : List Spelled) (text : List ℕ) → 1 ≤ length text → ends_interpolation strings text ≡ false → string_form text ≡ None
    → resumed strings done text ≡ (let piece = piece_at false text in resumed (braced strings text) (done ++ (piece.class, take piece.size text) ∷ []) (drop piece.size text))
piece-next strings done [] h e f = absurd (omega (arith, h))
piece-next strings done (byte ∷ text) h e f = piece-step strings done byte text e f

pub passes : (old : Cut) (piece : Piece) (braces after : ℕ) → Sound old → old.within ≡ InCode braces → old.at < old.end → (begins (rest_of old) (codes "}") ≡ true → braces ≡ 0 → old.around ≡ [])
    → string_form (rest_of old) ≡ None → piece ≡ piece_at false (rest_of old) → 0 < piece.size → piece.size ≤ length (rest_of old) → after ≡ braces_behind braces (rest_of old)
    → Steps old (passed piece after old)
passes old piece braces after s e some outside none is least within behind =
    let at : CodeAt old braces = code-at old braces s e in
    let grown : Grows old (added piece.class piece.size old) ((piece.class, take piece.size (rest_of old)) ∷ []) = grows-added old piece.class piece.size (counted old s) least (omega (arith, at.size, within)) in
    let here : 1 ≤ length (rest_of old) = omega (arith, at.size, some) in
    let strings : all_suspended old.text (old.pieces ++ piece ∷ []) old.end after old.around ≡ braced (all_suspended old.text old.pieces old.end braces old.around) (rest_of old) =
    all-same old.text (length old.pieces) (old.pieces ++ piece ∷ []) old.pieces old.end after old.around grown.kept at.nested
    ∙ ap (λ b. all_suspended old.text old.pieces old.end b old.around) behind ∙ sym (braced-all old.text old.pieces old.end braces old.around (rest_of old)) in
    let step = piece-next (all_suspended old.text old.pieces old.end braces old.around) (spelled old.pieces old.text) (rest_of old) here (goes-on old.text old.pieces old.end braces old.around (rest_of old) outside) none in
    let onward : resumed (braced (all_suspended old.text old.pieces old.end braces old.around) (rest_of old)) (spelled old.pieces old.text ++ (piece.class, take piece.size (rest_of old)) ∷ []) (drop piece.size (rest_of old))
    ≡ resumed (all_suspended old.text old.pieces old.end braces old.around) (spelled old.pieces old.text) (rest_of old) =
    ap (λ p. resumed (braced (all_suspended old.text old.pieces old.end braces old.around) (rest_of old)) (spelled old.pieces old.text ++ (p.class, take p.size (rest_of old)) ∷ []) (drop p.size (rest_of old))) is ∙ sym step in
    let bound : after ≤ braces + 1 = omega (arith, behind, braces-few braces (rest_of old)) in
    record {
      text = refl;
      sound = record {
        pieces = grown.counted.pieces;
        some = grown.counted.some;
        within = omega (arith, at.size, within, s.within);
        inside = s.inside;
        line = s.line;
        from = omega (arith, s.from);
        stands = (omega (arith, bound, least, at.few), nested-same old.text (length old.pieces) (old.pieces ++ piece ∷ []) old.pieces old.end old.around grown.kept at.nested);
      };
      same = ap (λ ss. resumed ss (spelled (old.pieces ++ piece ∷ []) old.text) (slice_range old.text (old.at + piece.size) old.end)) strings
          ∙ ap (λ d. resumed (braced (all_suspended old.text old.pieces old.end braces old.around) (rest_of old)) d (slice_range old.text (old.at + piece.size) old.end)) grown.spells
          ∙ ap (resumed (braced (all_suspended old.text old.pieces old.end braces old.around) (rest_of old)) (spelled old.pieces old.text ++ (piece.class, take piece.size (rest_of old)) ∷ []))
          (sym (range-drop old.text old.at old.end piece.size (omega (arith, at.size, within, s.within))))
          ∙ onward ∙ sym at.comes;
      less = omega (arith, at.left, least, within, at.size, at.within, s.within);
    }

-- a string is entered

no-brace : (text : List ℕ) → begins text (codes "{") ≡ true → string_form text ≡ None
no-brace text e = ap string_form (begins-split (codes "{") text e)

no-closing : (text : List ℕ) → begins text (codes "}") ≡ true → string_form text ≡ None
no-closing text e = ap string_form (begins-split (codes "}") text e)

braces-kept : (braces : ℕ) (text : List ℕ) (form : Form) → string_form text ≡ Some form → braces_behind braces text ≡ braces
braces-kept braces text form some = of (begins text (codes "{")) (begins text (codes "}")) refl refl
  where
    both : None ≡ Some form → ⊥
    both e = absurd (cc)

    of : (a b : Bool) → begins text (codes "{") ≡ a → begins text (codes "}") ≡ b → (if a then braces + 1 else (if b then braces - 1 else braces)) ≡ braces
    of true b e f = absurd (both (sym (no-brace text e) ∙ some))
    of false true e f = absurd (both (sym (no-closing text f) ∙ some))
    of false false e f = refl

string-next : (strings : List Suspended) (done : List Spelled) (text : List ℕ) (form : Form) → 1 ≤ length text → ends_interpolation strings text ≡ false → string_form text ≡ Some form
    → resumed strings done text ≡ (let reach = within_reach form text in
    resumed_within (record { form = form; before = done; reach = reach; beyond = drop (length reach) text; braces = 0 }) (braced strings text) done (opening_of form) (drop (length (opening_of form)) reach))
string-next strings done [] form h e f = absurd (omega (arith, h))
string-next strings done (byte ∷ text) form h e f = string-step strings done byte text form e f

abbrev entering : Form → Cut → (ps : List Piece) → List Suspended → (reach beyond begun : List ℕ) → List Spelled
entering form old ps around reach beyond begun =
    resumed_within (record { form = form; before = spelled ps old.text; reach = reach; beyond = beyond; braces = 0 }) around (spelled old.pieces old.text) begun (drop (length (opening_of form)) reach)

pub enters : (old : Cut) (form : StringForm) (braces : ℕ) (line : Line) → Sound old → old.within ≡ InCode braces → old.at < old.end → (begins (rest_of old) (codes "}") ≡ true → braces ≡ 0 → old.around ≡ [])
    → string_form (rest_of old) ≡ Some (shape form) → Ends old.text line → line.from ≤ old.at
    → Steps old (entered form braces (old.at + length (within_reach (shape form) (rest_of old))) line old)
unfolding Nested
enters old form braces line s e some outside is ends from =
    let at : CodeAt old braces = code-at old braces s e in
    let o : Opens (shape form) (rest_of old) = opens (rest_of old) (shape form) is in
    let r : Reaches (shape form) (rest_of old) = reaches (shape form) (rest_of old) o in
    let reach = within_reach (shape form) (rest_of old) in
    let opening = opening_of (shape form) in
    let end = old.at + length reach in
    let around = all_suspended old.text old.pieces old.end braces old.around in
    let here : 1 ≤ length (rest_of old) = omega (arith, at.size, some) in
    let begun : 1 ≤ length opening = opening-some (shape form) o.some in
    let far : length opening ≤ length reach = omega (arith, ap length r.opened, length-append opening (drop (length opening) reach)) in
    let near : length reach ≤ old.end - old.at = omega (arith, at.size, ap length r.split, length-append reach (drop (length reach) (rest_of old))) in
    let stop : (old.at + length reach) - old.at ≡ length reach = omega arith in
    let whole : slice_range old.text old.at end ≡ reach =
    ap (λ n. take n (drop old.at old.text)) stop ∙ sym (range-take old.text old.at old.end (length reach) near) ∙ front-is reach (drop (length reach) (rest_of old)) (rest_of old) r.split in
    let beyond : slice_range old.text end old.end ≡ drop (length reach) (rest_of old) = sym (range-drop old.text old.at old.end (length reach) (omega (arith, near, s.within))) in
    let front : take (length opening) reach ≡ opening = front-is opening (drop (length opening) reach) reach (sym r.opened) in
    let pieces : take (length old.pieces) old.pieces ≡ old.pieces = take_all (length old.pieces) old.pieces (omega arith) in
    let strings : around ≡ braced around (rest_of old) =
    ap (λ b. all_suspended old.text old.pieces old.end b old.around) (sym (braces-kept braces (rest_of old) (shape form) is)) ∙ sym (braced-all old.text old.pieces old.end braces old.around (rest_of old)) in
    record {
      text = refl;
      sound = record {
        pieces = s.pieces;
        some = s.some;
        within = omega arith;
        inside = omega (arith, near, s.within, s.inside);
        line = ends;
        from = from;
        stands = (
          omega (arith, far),
          (
            record {
              some = o.some;
              short = o.few;
              few = omega arith;
              start = ap size_of pieces ∙ s.pieces;
              forward = omega (arith, begun, far);
              outside = omega (arith, near, s.within);
              braces = at.few;
            },
            subst (λ ps. Nested old.text ps old.end old.around) (sym pieces) at.nested,
          ),
        );
      };
      same = ap (λ ps. entering (shape form) old ps (all_suspended old.text ps old.end braces old.around) (slice_range old.text old.at end) (slice_range old.text end old.end) (take (length opening) (slice_range old.text old.at end))) pieces
          ∙ ap (λ w. entering (shape form) old old.pieces around w (slice_range old.text end old.end) (take (length opening) w)) whole
          ∙ ap (λ b. entering (shape form) old old.pieces around reach b (take (length opening) reach)) beyond
          ∙ ap (λ b. entering (shape form) old old.pieces around reach (drop (length reach) (rest_of old)) b) front
          ∙ ap (λ ss. entering (shape form) old old.pieces ss reach (drop (length reach) (rest_of old)) opening) strings
          ∙ sym (string-next around (spelled old.pieces old.text) (rest_of old) (shape form) here (goes-on old.text old.pieces old.end braces old.around (rest_of old) outside) is) ∙ sym at.comes;
      less = omega (arith, at.left, begun, far, near, at.within, s.within);
    }

-- an open string and those around it, where these pieces stand before it
abbrev resumed_in : (text : List ℕ) → OpenString → (end : ℕ) → List OpenString → (ps : List Piece) → (done : List Spelled) → (begun rest : List ℕ) → List Spelled
resumed_in text string end opened ps done begun rest =
    resumed_within (record { form = shape string.form; before = spelled ps text; reach = slice_range text string.start end; beyond = slice_range text end string.outside; braces = 0 })
    (all_suspended text ps string.outside string.braces opened) done begun rest

closing-next : (string : Suspended) (around : List Suspended) (done : List Spelled) (text : List ℕ) → 1 ≤ length text → ends_interpolation (string ∷ around) text ≡ true
    → resumed (string ∷ around) done text ≡ resumed_within string around (done ++ (InterpolationClosing, codes "}") ∷ []) [] (drop 1 text)
closing-next string around done [] h e = absurd (omega (arith, h))
closing-next string around done (byte ∷ text) h e = closing-step string around done byte text e

pub continues : (old : Cut) (string : OpenString) (around : List OpenString) → Sound old → old.within ≡ InCode 0 → old.at < old.end → begins (rest_of old) (codes "}") ≡ true → old.around ≡ string ∷ around
    → Steps old (continued string (record old { around = around }))
unfolding Nested all_suspended
continues old string around s e some closes is =
    let at : CodeAt old 0 = code-at old 0 s e in
    let nested : Nested old.text old.pieces old.end (string ∷ around) = subst (λ o. Nested old.text old.pieces old.end o) is at.nested in
    let here : 1 ≤ length (rest_of old) = omega (arith, at.size, some) in
    let grown : Grows old (added InterpolationClosing 1 old) ((InterpolationClosing, take 1 (rest_of old)) ∷ []) = grows-added old InterpolationClosing 1 (counted old s) (omega arith) (omega arith) in
    let pieces = old.pieces ++ record { class = InterpolationClosing; size = 1 } ∷ [] in
    let kept : take string.pieces pieces ≡ take string.pieces old.pieces = same-front (length old.pieces) string.pieces pieces old.pieces grown.kept nested.0.few in
    let byte : take 1 (rest_of old) ≡ codes "}" = ap (take 1) (begins-split (codes "}") (rest_of old) closes) in
    let ends : (begins (rest_of old) (codes "}") && 0 == 0) ≡ true = and-both (begins (rest_of old) (codes "}")) (0 == 0) closes refl in
    let less : length old.around ≡ length around + 1 = omega (arith, ap length is) in
    record {
      text = refl;
      sound = record {
        pieces = grown.counted.pieces;
        some = grown.counted.some;
        within = omega arith;
        inside = s.inside;
        line = s.line;
        from = omega (arith, s.from);
        stands = (omega arith, nested-same old.text (length old.pieces) pieces old.pieces old.end (string ∷ around) grown.kept nested);
      };
      same = ap (λ ps. resumed_in old.text string old.end around ps (spelled pieces old.text) [] (slice_range old.text (old.at + 1) old.end)) kept
          ∙ ap (λ d. resumed_in old.text string old.end around (take string.pieces old.pieces) d [] (slice_range old.text (old.at + 1) old.end)) (grown.spells ∙ ap (λ b. spelled old.pieces old.text ++ (InterpolationClosing, b) ∷ []) byte)
          ∙ ap (resumed_in old.text string old.end around (take string.pieces old.pieces) (spelled old.pieces old.text ++ (InterpolationClosing, codes "}") ∷ []) []) (sym (range-drop old.text old.at old.end 1 (omega arith)))
          ∙ sym (closing-next (suspended old.text old.pieces old.end 0 string) (all_suspended old.text (take string.pieces old.pieces) string.outside string.braces around) (spelled old.pieces old.text) (rest_of old) here ends)
          ∙ ap (λ o. resumed (all_suspended old.text old.pieces old.end 0 o) (spelled old.pieces old.text) (rest_of old)) (sym is) ∙ sym at.comes;
      less = omega (arith, at.left, less, at.within);
    }

-- A string that never ends.

push-kept : (ps : List Piece) (p : Piece) → take (length ps) (ps ++ p ∷ []) ≡ ps
push-kept ps p = take-append-le (length ps) ps (p ∷ []) (omega arith) ∙ take_all (length ps) ps (omega arith)

abandoned-comes : (cut : Cut) (string : OpenString) → Lies cut.pieces cut.end string → Nested cut.text (take string.pieces cut.pieces) string.outside cut.around
    → to_come (abandoned string cut)
    ≡ resumed (all_suspended cut.text (take string.pieces cut.pieces) string.outside string.braces cut.around)
    (spelled (take string.pieces cut.pieces) cut.text ++ (UnterminatedString, slice_range cut.text string.start cut.end) ∷ []) (slice_range cut.text cut.end string.outside)
abandoned-comes cut string lies around =
    let before = take string.pieces cut.pieces in
    let piece : Piece = record { class = UnterminatedString; size = cut.end - string.start } in
    let place : string.start + (cut.end - string.start) ≡ cut.end = omega (arith, lies.forward) in
    ap (λ ss. resumed ss (spelled (before ++ piece ∷ []) cut.text) (slice_range cut.text (string.start + (cut.end - string.start)) string.outside))
    (all-same cut.text (length before) (before ++ piece ∷ []) before string.outside string.braces cut.around (push-kept before piece) around)
    ∙ ap (λ d. resumed (all_suspended cut.text before string.outside string.braces cut.around) d (slice_range cut.text (string.start + (cut.end - string.start)) string.outside))
    (spelled-push before piece cut.text ∙ ap (λ n. spelled before cut.text ++ (UnterminatedString, take (cut.end - string.start) (drop n cut.text)) ∷ []) lies.start)
    ∙ ap (λ n. resumed (all_suspended cut.text before string.outside string.braces cut.around) (spelled before cut.text ++ (UnterminatedString, slice_range cut.text string.start cut.end) ∷ []) (slice_range cut.text n string.outside)) place

abandoned-sound : (cut : Cut) (string : OpenString) → All (λ (p : Piece). 0 < p.size) cut.pieces → Ends cut.text cut.line → cut.line.from ≤ cut.end → Lies cut.pieces cut.end string
    → Nested cut.text (take string.pieces cut.pieces) string.outside cut.around → Sound (abandoned string cut)
abandoned-sound cut string some ends from lies around =
    let before = take string.pieces cut.pieces in
    let piece : Piece = record { class = UnterminatedString; size = cut.end - string.start } in
    record {
      pieces = sum_by_push (λ (p : Piece). p.size) before piece ∙ ap (λ n. n + (cut.end - string.start)) lies.start;
      some = All-push (λ (p : Piece). 0 < p.size) before piece (All-take (λ (p : Piece). 0 < p.size) string.pieces cut.pieces some) (omega (arith, lies.forward));
      within = omega (arith, lies.forward, lies.outside);
      inside = nested-within cut.text (take string.pieces cut.pieces) string.outside cut.around around;
      line = ends;
      from = omega (arith, from, lies.forward);
      stands = (omega (arith, lies.braces), nested-same cut.text (length before) (before ++ piece ∷ []) before string.outside cut.around (push-kept before piece) around);
    }

ending-next : (string : Suspended) (around : List Suspended) (done : List Spelled) (text : List ℕ) → text ≡ [] → resumed (string ∷ around) done text ≡ resumed around (string.before ++ (UnterminatedString, string.reach) ∷ []) string.beyond
ending-next string around done text e = ap (resumed (string ∷ around) done) e ∙ ending-step string around done

pub runs-out : (old : Cut) (string : OpenString) (around : List OpenString) (braces : ℕ) → Sound old → old.within ≡ InCode braces → old.at ≡ old.end → old.around ≡ string ∷ around → Steps old (abandoned string (record old { around = around }))
unfolding Nested all_suspended
runs-out old string around braces s e out is =
    let at : CodeAt old braces = code-at old braces s e in
    let nested : Nested old.text old.pieces old.end (string ∷ around) = subst (λ o. Nested old.text old.pieces old.end o) is at.nested in
    let none : rest_of old ≡ [] = ap (λ n. slice_range old.text n old.end) out ∙ range-none old.text old.end in
    let less : length old.around ≡ length around + 1 = omega (arith, ap length is) in
    record {
      text = refl;
      sound = abandoned-sound (record old { around = around }) string s.some s.line (omega (arith, s.from, out)) nested.0 nested.1;
      same = abandoned-comes (record old { around = around }) string nested.0 nested.1
          ∙ sym (ending-next (suspended old.text old.pieces old.end braces string) (all_suspended old.text (take string.pieces old.pieces) string.outside string.braces around) (spelled old.pieces old.text) (rest_of old) none)
          ∙ ap (λ o. resumed (all_suspended old.text old.pieces old.end braces o) (spelled old.pieces old.text) (rest_of old)) (sym is) ∙ sym at.comes;
      less = omega (arith, at.left, less, out, nested.0.forward, at.within);
    }

-- nothing is left
pub done : (old : Cut) (braces : ℕ) → Sound old → old.within ≡ InCode braces → old.at ≡ old.end → old.around ≡ [] → IsDone old (record old { around = [] })
unfolding Nested all_suspended resumed pieces_within
done old braces s e out is =
    let at : CodeAt old braces = code-at old braces s e in
    let nested : Nested old.text old.pieces old.end [] = subst (λ o. Nested old.text old.pieces old.end o) is at.nested in
    let none : rest_of old ≡ [] = ap (λ n. slice_range old.text n old.end) out ∙ range-none old.text old.end in
    record {
      text = refl;
      sound = record {
        pieces = s.pieces;
        some = s.some;
        within = s.within;
        inside = s.inside;
        line = s.line;
        from = s.from;
        stands = subst (λ w. Stands w (record old { around = [] })) (sym e) (at.few, nested);
      };
      all = sym (at.comes ∙ ap (λ o. resumed (all_suspended old.text old.pieces old.end braces o) (spelled old.pieces old.text) (rest_of old)) is
          ∙ ap (resumed [] (spelled old.pieces old.text)) none ∙ append-nil (spelled old.pieces old.text));
      end = out ∙ nested;
      outside = record { code = subst IsCode (sym e) tt; none = refl };
    }

-- Steps in a string.

quotes-next : (begun size count : ℕ) (rest quoted : List ℕ) → begins (drop size (drop begun rest)) quoted ≡ true → count ≡ begun + size + length quoted
    → take count rest ≡ (take begun rest ++ take size (drop begun rest)) ++ quoted
quotes-next begun size count rest quoted e is =
    let back : drop (begun + size) rest ≡ drop size (drop begun rest) = sym (drop-drop size begun rest) in
    let last : take (length quoted) (drop (begun + size) rest) ≡ quoted = ap (take (length quoted)) (back ∙ begins-split quoted (drop size (drop begun rest)) e)
    ∙ take-append_seam quoted (drop (length quoted) (drop size (drop begun rest))) in
    ap (λ n. take n rest) is ∙ take-add (begun + size) (length quoted) rest ∙ ap (λ t. t ++ take (length quoted) (drop (begun + size) rest)) (take-add begun size rest)
    ∙ ap (λ t. (take begun rest ++ take size (drop begun rest)) ++ t) last

class-is : (begun : List ℕ) → last_class begun ≡ (if length begun == 0 then StringClosing else StringLiteral)
class-is [] = refl
class-is (b ∷ begun) = let test : (suc (length begun) == 0) ≡ false = grind arith in rw test refl

pub closes : (old : Cut) (string : OpenString) (begun size count : ℕ) → Sound old → old.within ≡ InString string begun → size ≡ plain_size (shape string.form) (drop begun (rest_of old)) → count ≡ begun + size + length string.form.quotes.now
    → begins (drop size (drop begun (rest_of old))) string.form.quotes.now ≡ true → Steps old (closed string begun count old)
unfolding Nested
closes old string begun size count s e plain all ends =
    let at : StringAt old string begun = string-at old string begun s e in
    let rest = rest_of old in
    let quotes = string.form.quotes.now in
    let q = length quotes in
    let class : Class = (if begun == 0 then StringClosing else StringLiteral) in
    let before = take string.pieces old.pieces in
    let split : drop size (drop begun rest) ≡ quotes ++ drop q (drop size (drop begun rest)) = begins-split quotes (drop size (drop begun rest)) ends in
    let fits : begun + size + q ≤ old.end - old.at =
    omega (arith, at.size, at.lies.some, ap length split, length-append quotes (drop q (drop size (drop begun rest))), length-drop size (drop begun rest), length-drop begun rest) in
    let grown : Grows old (added class count old) ((class, take count rest) ∷ []) = grows-added old class count (counted old s) (omega (arith, at.lies.some)) (omega (arith, fits, all)) in
    let pieces = old.pieces ++ record { class = class; size = count } ∷ [] in
    let kept : take string.pieces pieces ≡ before = same-front (length old.pieces) string.pieces pieces old.pieces grown.kept at.lies.few in
    let named-class : class ≡ last_class (take begun rest) =
    sym (class-is (take begun rest) ∙ ap (λ n. if n == 0 then StringClosing else StringLiteral) (omega (arith, at.size, at.known, length-take begun rest))) in
    let bytes : take count rest ≡ (take begun rest ++ take size (drop begun rest)) ++ quotes = quotes-next begun size count rest quotes ends all in
    let place : drop q (drop size (drop begun rest)) ≡ slice_range old.text (old.at + count) old.end =
    ap (drop q) (drop-drop size begun rest) ∙ drop-drop q (begun + size) rest ∙ ap (λ n. drop n rest) (sym all) ∙ range-drop old.text old.at old.end count (omega (arith, fits, all, s.within)) in
    record {
      text = refl;
      sound = record {
        pieces = grown.counted.pieces;
        some = grown.counted.some;
        within = omega (arith, fits, all, at.lies.outside, s.within);
        inside = nested-within old.text (take string.pieces old.pieces) string.outside old.around at.around;
        line = s.line;
        from = omega (arith, s.from);
        stands = (
          omega (arith, at.lies.braces, at.lies.start, s.pieces, sum_by-take-le (λ (p : Piece). p.size) old.pieces string.pieces),
          nested-same old.text string.pieces pieces before string.outside old.around kept at.around,
        );
      };
      same = ap (λ ss. resumed ss (spelled pieces old.text) (slice_range old.text (old.at + count) string.outside)) (all-same old.text string.pieces pieces before string.outside string.braces old.around kept at.around)
          ∙ ap (λ d. resumed (all_suspended old.text before string.outside string.braces old.around) d (slice_range old.text (old.at + count) string.outside))
          (grown.spells ∙ ap (λ b. spelled old.pieces old.text ++ (class, b) ∷ []) bytes ∙ ap (λ c. spelled old.pieces old.text ++ (c, (take begun rest ++ take size (drop begun rest)) ++ quotes) ∷ []) named-class)
          ∙ ap (resumed (all_suspended old.text before string.outside string.braces old.around) (spelled old.pieces old.text ++ (last_class (take begun rest), (take begun rest ++ take size (drop begun rest)) ++ quotes) ∷ []))
          (sym (ap (λ t. t ++ slice_range old.text old.end string.outside) place ∙ range-join old.text (old.at + count) old.end string.outside (omega (arith, fits, all, s.within)) at.lies.outside))
          ∙ sym (quotes-step (suspended old.text old.pieces old.end 0 string) (all_suspended old.text before string.outside string.braces old.around) (spelled old.pieces old.text) (take begun rest) (drop begun rest) size at.lies.some plain ends)
          ∙ sym at.comes;
      less = omega (arith, at.left, fits, all, at.lies.some, at.within, s.within);
    }

pub gives-up : (old : Cut) (string : OpenString) (begun size : ℕ) → Sound old → old.within ≡ InString string begun → size ≡ plain_size (shape string.form) (drop begun (rest_of old))
    → begins (drop size (drop begun (rest_of old))) string.form.quotes.now ≡ false → (string.form.raw ≡ false → NoneBegins (drop size (drop begun (rest_of old)))) → Steps old (abandoned string old)
gives-up old string begun size s e plain ends none =
    let at : StringAt old string begun = string-at old string begun s e in
    record {
      text = refl;
      sound = abandoned-sound old string s.some s.line (omega (arith, s.from, s.within)) at.lies at.around;
      same = abandoned-comes old string at.lies at.around
          ∙ sym (never-step (suspended old.text old.pieces old.end 0 string) (all_suspended old.text (take string.pieces old.pieces) string.outside string.braces old.around) (spelled old.pieces old.text) (take begun (rest_of old)) (drop begun (rest_of old)) size
          at.lies.some plain ends (λ r. ((none r).no_brace, (none r).no_name)))
          ∙ sym at.comes;
      less = omega (arith, at.left, at.known, at.lies.forward, at.within);
    }

-- Interpolations in a string.

part-open : (begun size : ℕ) (cut : Cut) → (with_part begun size cut).around ≡ cut.around
part-open begun zero cut = refl
part-open begun (suc size) cut = let test : (suc size == 0) ≡ false = grind arith in rw test refl

rest-behind : (old between : Cut) (n : ℕ) → between.text ≡ old.text → between.end ≡ old.end → between.at ≡ old.at + n → old.at + n ≤ old.end → rest_of between ≡ drop n (rest_of old)
rest-behind old between n t e a h =
    ap (λ x. slice_range x between.at between.end) t ∙ ap (λ x. slice_range old.text between.at x) e ∙ ap (λ x. slice_range old.text x old.end) a ∙ sym (range-drop old.text old.at old.end n h)

pub opens-expression : (old : Cut) (string : OpenString) (begun size count : ℕ) → Sound old → old.within ≡ InString string begun → size ≡ plain_size (shape string.form) (drop begun (rest_of old)) → count ≡ begun + size
    → begins (drop size (drop begun (rest_of old))) string.form.quotes.now ≡ false → string.form.raw ≡ false → begins (drop size (drop begun (rest_of old))) (codes "${") ≡ true
    → Steps old (interpolated string begun count old)
unfolding Nested all_suspended
opens-expression old string begun size count s e plain all ends raw opens =
    let at : StringAt old string begun = string-at old string begun s e in
    let rest = rest_of old in
    let split : drop size (drop begun rest) ≡ codes "${" ++ drop 2 (drop size (drop begun rest)) = begins-split (codes "${") (drop size (drop begun rest)) opens in
    let fits : begun + size + 2 ≤ old.end - old.at = omega (arith, at.size, ap length split, length-drop size (drop begun rest), length-drop begun rest) in
    let between = with_part begun count old in
    let first : Grows old between (part_before (take begun rest) (take size (drop begun rest))) =
    subst (λ n. Grows old (with_part begun n old) (part_before (take begun rest) (take size (drop begun rest)))) (sym all) (grows-part old begun size (counted old s) (omega (arith, fits, at.size)) at.size) in
    let there : between.at ≡ old.at + count = part-at begun count old in
    let behind : rest_of between ≡ drop count rest = rest-behind old between count (part-text begun count old) (part-end begun count old) there (omega (arith, fits, all)) in
    let mark : take 2 (rest_of between) ≡ codes "${" = ap (take 2) (behind ∙ ap (λ n. drop n rest) all ∙ sym (drop-drop size begun rest) ∙ split) in
    let second : Grows between (added InterpolationOpening 2 between) ((InterpolationOpening, codes "${") ∷ []) =
    subst (λ b. Grows between (added InterpolationOpening 2 between) ((InterpolationOpening, b) ∷ [])) mark
    (grows-added between InterpolationOpening 2 first.counted (omega arith) (omega (arith, fits, all, there, part-end begun count old))) in
    let grown : Grows old (added InterpolationOpening 2 between) (part_before (take begun rest) (take size (drop begun rest)) ++ (InterpolationOpening, codes "${") ∷ []) =
    grows-twice old between (added InterpolationOpening 2 between) _ _ (part-text begun count old) first second in
    let pieces = between.pieces ++ record { class = InterpolationOpening; size = 2 } ∷ [] in
    let strings : all_suspended old.text pieces old.end 0 (string ∷ old.around) ≡ all_suspended old.text old.pieces old.end 0 (string ∷ old.around) =
    all-same old.text (length old.pieces) pieces old.pieces old.end 0 (string ∷ old.around) grown.kept at.nested in
    let place : drop 2 (drop size (drop begun rest)) ≡ slice_range old.text (between.at + 2) old.end =
    ap (drop 2) (drop-drop size begun rest) ∙ drop-drop 2 (begun + size) rest ∙ range-drop old.text old.at old.end (begun + size + 2) (omega (arith, fits, s.within))
    ∙ ap (λ n. slice_range old.text n old.end) (omega (arith, there, all)) in
    record {
      text = part-text begun count old;
      sound = record {
        pieces = grown.counted.pieces;
        some = grown.counted.some;
        within = omega (arith, fits, all, there, part-end begun count old, s.within);
        inside = omega (arith, s.inside, part-end begun count old, ap length (part-text begun count old));
        line = subst (λ t. Ends t between.line) (sym (part-text begun count old)) (subst (λ l. Ends old.text l) (sym (part-line begun count old)) s.line);
        from = omega (arith, s.from, there, ap (λ (l : Line). l.from) (part-line begun count old));
        stands = (
          omega arith,
          subst (λ t. Nested t pieces between.end (string ∷ old.around)) (sym (part-text begun count old))
              (subst (λ n. Nested old.text pieces n (string ∷ old.around)) (sym (part-end begun count old)) (nested-same old.text (length old.pieces) pieces old.pieces old.end (string ∷ old.around) grown.kept at.nested)),
        );
      };
      same = ap (λ t. resumed (all_suspended t pieces between.end 0 (string ∷ old.around)) (spelled pieces t) (slice_range t (between.at + 2) between.end)) (part-text begun count old)
          ∙ ap (λ n. resumed (all_suspended old.text pieces n 0 (string ∷ old.around)) (spelled pieces old.text) (slice_range old.text (between.at + 2) n)) (part-end begun count old)
          ∙ ap (λ ss. resumed ss (spelled pieces old.text) (slice_range old.text (between.at + 2) old.end)) strings
          ∙ ap (λ d. resumed (all_suspended old.text old.pieces old.end 0 (string ∷ old.around)) d (slice_range old.text (between.at + 2) old.end))
          (grown.spells ∙ sym (append_assoc (spelled old.pieces old.text) (part_before (take begun rest) (take size (drop begun rest))) ((InterpolationOpening, codes "${") ∷ [])))
          ∙ ap (resumed (all_suspended old.text old.pieces old.end 0 (string ∷ old.around)) ((spelled old.pieces old.text ++ part_before (take begun rest) (take size (drop begun rest))) ++ (InterpolationOpening, codes "${") ∷ [])) (sym place)
          ∙ sym (opening-step (suspended old.text old.pieces old.end 0 string) (all_suspended old.text (take string.pieces old.pieces) string.outside string.braces old.around) (spelled old.pieces old.text) (take begun rest) (drop begun rest) size
          at.lies.some plain ends raw opens)
          ∙ sym at.comes;
      less = omega (arith, at.left, fits, all, there, at.within, s.within, ap length (part-text begun count old));
    }

pub opens-name : (old : Cut) (string : OpenString) (begun size count name : ℕ) → Sound old → old.within ≡ InString string begun → size ≡ plain_size (shape string.form) (drop begun (rest_of old)) → count ≡ begun + size
    → begins (drop size (drop begun (rest_of old))) string.form.quotes.now ≡ false → string.form.raw ≡ false → Names (drop size (drop begun (rest_of old))) name
    → Steps old (named string begun count name old)
unfolding Nested
opens-name old string begun size count name s e plain all ends raw names =
    let at : StringAt old string begun = string-at old string begun s e in
    let rest = rest_of old in
    let here = drop size (drop begun rest) in
    let known : (begins here (codes "$") ≡ true) × (0 < name_size (drop 1 here)) = named-parts here (is_interpolated (take (name_size (drop 1 here)) (drop 1 here))) names.name in
    let split : here ≡ codes "$" ++ drop 1 here = begins-split (codes "$") here known.0 in
    let some : 1 ≤ name = omega (arith, names.size, known.1) in
    let fits : begun + size + (1 + name) ≤ old.end - old.at = omega (arith, at.size, names.within, length-drop size (drop begun rest), length-drop begun rest) in
    let part = part_before (take begun rest) (take size (drop begun rest)) in
    let between = with_part begun count old in
    let marked = added InterpolationMark 1 between in
    let first : Grows old between part = subst (λ n. Grows old (with_part begun n old) part) (sym all) (grows-part old begun size (counted old s) (omega (arith, fits, at.size)) at.size) in
    let there : between.at ≡ old.at + count = part-at begun count old in
    let behind : rest_of between ≡ here =
    rest-behind old between count (part-text begun count old) (part-end begun count old) there (omega (arith, fits, all)) ∙ ap (λ n. drop n rest) all ∙ sym (drop-drop size begun rest) in
    let second : Grows between marked ((InterpolationMark, codes "$") ∷ []) =
    subst (λ b. Grows between marked ((InterpolationMark, b) ∷ [])) (ap (take 1) (behind ∙ split)) (grows-added between InterpolationMark 1 first.counted (omega arith) (omega (arith, fits, all, there, part-end begun count old))) in
    let word : rest_of marked ≡ drop 1 here = rest-behind between marked 1 refl refl refl (omega (arith, fits, all, there, part-end begun count old)) ∙ ap (drop 1) behind in
    let third : Grows marked (added Word name marked) ((Word, take name (drop 1 here)) ∷ []) =
    subst (λ b. Grows marked (added Word name marked) ((Word, take name b) ∷ [])) word (grows-added marked Word name second.counted some (omega (arith, fits, all, there, part-end begun count old))) in
    let grown : Grows old (added Word name marked) (part ++ ((InterpolationMark, codes "$") ∷ (Word, take name (drop 1 here)) ∷ [])) =
    grows-twice old between (added Word name marked) part ((InterpolationMark, codes "$") ∷ (Word, take name (drop 1 here)) ∷ []) (part-text begun count old) first
    (grows-twice between marked (added Word name marked) ((InterpolationMark, codes "$") ∷ []) ((Word, take name (drop 1 here)) ∷ []) refl second third) in
    let pieces = (between.pieces ++ record { class = InterpolationMark; size = 1 } ∷ []) ++ record { class = Word; size = name } ∷ [] in
    let kept : take string.pieces pieces ≡ take string.pieces old.pieces = same-front (length old.pieces) string.pieces pieces old.pieces grown.kept at.lies.few in
    let stop = between.at + 1 + name in
    let place : drop (1 + name) here ≡ slice_range old.text stop old.end =
    ap (drop (1 + name)) (drop-drop size begun rest) ∙ drop-drop (1 + name) (begun + size) rest ∙ range-drop old.text old.at old.end (begun + size + (1 + name)) (omega (arith, fits, s.within))
    ∙ ap (λ n. slice_range old.text n old.end) (omega (arith, there, all)) in
    record {
      text = part-text begun count old;
      sound = record {
        pieces = grown.counted.pieces;
        some = grown.counted.some;
        within = omega (arith, fits, all, there, part-end begun count old, s.within);
        inside = omega (arith, s.inside, part-end begun count old, ap length (part-text begun count old));
        line = subst (λ t. Ends t between.line) (sym (part-text begun count old)) (subst (λ l. Ends old.text l) (sym (part-line begun count old)) s.line);
        from = omega (arith, s.from, there, ap (λ (l : Line). l.from) (part-line begun count old));
        stands = (
          omega (arith, fits, all, there, part-end begun count old, s.within),
          subst (λ t. Nested t pieces between.end (string ∷ between.around)) (sym (part-text begun count old))
              (subst (λ n. Nested old.text pieces n (string ∷ between.around)) (sym (part-end begun count old))
              (subst (λ o. Nested old.text pieces old.end (string ∷ o)) (sym (part-open begun count old)) (nested-same old.text (length old.pieces) pieces old.pieces old.end (string ∷ old.around) grown.kept at.nested))),
        );
      };
      same = ap (λ t. resumed_in t string between.end between.around (take string.pieces pieces) (spelled pieces t) [] (slice_range t stop between.end)) (part-text begun count old)
          ∙ ap (λ n. resumed_in old.text string n between.around (take string.pieces pieces) (spelled pieces old.text) [] (slice_range old.text stop n)) (part-end begun count old)
          ∙ ap (λ o. resumed_in old.text string old.end o (take string.pieces pieces) (spelled pieces old.text) [] (slice_range old.text stop old.end)) (part-open begun count old)
          ∙ ap (λ ps. resumed_in old.text string old.end old.around ps (spelled pieces old.text) [] (slice_range old.text stop old.end)) kept
          ∙ ap (λ d. resumed_in old.text string old.end old.around (take string.pieces old.pieces) d [] (slice_range old.text stop old.end))
          (grown.spells ∙ sym (append_assoc (spelled old.pieces old.text) part ((InterpolationMark, codes "$") ∷ (Word, take name (drop 1 here)) ∷ [])))
          ∙ ap (resumed_in old.text string old.end old.around (take string.pieces old.pieces) ((spelled old.pieces old.text ++ part) ++ (InterpolationMark, codes "$") ∷ (Word, take name (drop 1 here)) ∷ []) []) (sym place)
          ∙ ap (λ n. resumed_in old.text string old.end old.around (take string.pieces old.pieces) ((spelled old.pieces old.text ++ part) ++ (InterpolationMark, codes "$") ∷ (Word, take n (drop 1 here)) ∷ []) [] (drop (1 + n) here)) names.size
          ∙ sym (name-step (suspended old.text old.pieces old.end 0 string) (all_suspended old.text (take string.pieces old.pieces) string.outside string.braces old.around) (spelled old.pieces old.text) (take begun rest) (drop begun rest) size
          at.lies.some plain ends raw names.no_brace names.name)
          ∙ sym at.comes;
      less = omega (arith, at.left, fits, all, there, some, at.within, s.within, ap length (part-text begun count old), ap length (part-open begun count old));
    }
