-- What is read of a string is what its grammar says.
use Rattle.std.proofs.Common.{◌≡◌, ◌⊎◌, inl, inr, ℕ, zero, suc, ◌+◌, ◌<◌, ◌≤◌, ◌==◌, ◌&&◌, not, Bool, true, false, List, [], ◌∷◌, ◌++◌, length, take, drop, codes, if◌then◌else◌, Option, Some, None, option_map, refl, sym, ap, subst, ◌∙◌, arith, length-drop, length-append}
use Rattle.std.specs.Prelude.{IfSome, option_and_then}
use Rattle.std.specs.Option.{option_map_or, ForSome}
use Rattle.std.proofs.lemmas.Bool.{and_parts, or_left, or_right, eqb-true, eq-eqb}
use Rattle.std.proofs.lemmas.List.{take-append-drop}
use Rattle.std.proofs.lemmas.Option.{same_Some}
use Rattle.std.proofs.Math.Seq.{take-append_seam}
use Rattle.dart_scan.specs.declared.piece.Class.TheVariants.{Word, InterpolationMark, InterpolationOpening, InterpolationClosing}
use Rattle.dart_scan.specs.Lexemes.{begins}
use Rattle.dart_scan.specs.Strings.{Form, opening_of, string_form, within_reach, name_size, is_interpolated, begins_name, begins_interpolation, ends_piece, begins_escape, plain_size}
use Rattle.dart_scan.specs.Pieces.{Spelled, Read, behind, read_piece, string_at, next_at, last_class, part_before, name_row, expression_row, after_plain, parts_row, braces_behind, expression_pieces, pieces}
use Rattle.dart_scan.specs.Openings.{taken}
use Rattle.dart_scan.specs.Suspended.{enough, pieces_behind}
use Rattle.dart_scan.specs.WholeStrings.{IsPlain, no_more, byte, escaped, IsExpression, closing, next, GoesOn, ends, interpolates, Interpolates, by_name, by_expression, IsString, unterminated, BeginsWith}
use Rattle.dart_scan.specs.PlainLemmas.{plain-step}
use Rattle.dart_scan.specs.FormLemmas.{begins-split, drop-front, opens}
use Rattle.dart_scan.specs.StepLemmas.{Fair, next-fair, named-parts, brace}
use Rattle.dart_scan.specs.ResumeLemmas.{enough-fair, parts-step, expression-step, first-step}

-- Choices and optional values.

either-first : {A : Type 0} (b : Bool) (x y : A) → b ≡ true → (if b then x else y) ≡ x
either-first true x y e = refl
either-first false x y e = absurd (cc)

either-second : {A : Type 0} (b : Bool) (x y : A) → b ≡ false → (if b then x else y) ≡ y
either-second true x y e = absurd (cc)
either-second false x y e = refl

mapped : {A B : Type 0} (f : A → B) (o : Option A) (b : B) → option_map f o ≡ Some b → (a : A) × (o ≡ Some a) × (f a ≡ b)
mapped f None b e = absurd (cc)
mapped f (Some a) b e = (a, refl, same_Some (f a) b e)

chained : {A B : Type 0} (f : A → Option B) (o : Option A) (b : B) → option_and_then f o ≡ Some b → (a : A) × (o ≡ Some a) × (f a ≡ Some b)
chained f None b e = absurd (cc)
chained f (Some a) b e = (a, refl, e)

if_some : {A : Type 0} (P : A → Type 0) (o : Option A) (a : A) → IfSome o P → o ≡ Some a → P a
if_some P None a h e = absurd (cc)
if_some P (Some x) a h e = subst P (same_Some x a e) h

-- Plain bytes.

taken-one : (raw : Bool) (first : ℕ) (text : List ℕ) → (not raw && first == 92) ≡ false → taken raw (first ∷ text) ≡ 1
taken-one raw first [] e = refl
taken-one raw first (second ∷ text) e = either-second (not raw && first == 92) 2 1 e

plain-size : (form : Form) (behind : List ℕ) {plain : List ℕ} → IsPlain form behind plain → ends_piece form behind ≡ true → 1 ≤ length behind → plain_size form (plain ++ behind) ≡ length plain
plain-size form behind no_more e h = plain-step form behind h ∙ either-first (ends_piece form behind) 0 _ e
plain-size form behind (byte first {plain = plain} goes single more) e h =
    let text : List ℕ = first ∷ (plain ++ behind) in
    let later : plain_size form (plain ++ behind) ≡ length plain = plain-size form behind more e h in
    plain-step form text (omega arith) ∙ either-second (ends_piece form text) 0 _ goes ∙ ap (λ (n : ℕ). n + plain_size form (drop n text)) (taken-one form.raw first (plain ++ behind) single) ∙ omega (arith, later)
plain-size form behind (escaped first second {plain = plain} goes both more) e h =
    let text : List ℕ = first ∷ second ∷ (plain ++ behind) in
    let later : plain_size form (plain ++ behind) ≡ length plain = plain-size form behind more e h in
    plain-step form text (omega arith) ∙ either-second (ends_piece form text) 0 _ goes ∙ ap (λ (n : ℕ). n + plain_size form (drop n text)) (either-first (not form.raw && first == 92) 2 1 both) ∙ omega (arith, later)

-- no piece ends where nothing stands
nothing-ends : (form : Form) → 1 ≤ length form.quotes → ends_piece form [] ≡ true → ⊥
nothing-ends form some e = of form.quotes form.raw some e
  where
    of : (quotes : List ℕ) (raw : Bool) → 1 ≤ length quotes → ends_piece (record { quotes = quotes; raw = raw }) [] ≡ true → ⊥
    of [] raw h e = omega (arith, h)
    of (q ∷ quotes) true h e = absurd (cc)
    of (q ∷ quotes) false h e = absurd (cc)

plain-of : (form : Form) (text : List ℕ) → 1 ≤ length form.quotes → ends_piece form (drop (plain_size form text) text) ≡ true → IsPlain form (drop (plain_size form text) text) (take (plain_size form text) text)
unfolding plain_size
plain-of form [] some e = no_more
plain-of form (first ∷ []) some e = last (ends_piece form (first ∷ [])) e
  where
    last : (stops : Bool) → ends_piece form (drop (if stops then 0 else 1) (first ∷ [])) ≡ true → IsPlain form (drop (if stops then 0 else 1) (first ∷ [])) (take (if stops then 0 else 1) (first ∷ []))
    last true e = no_more
    last false e = absurd (nothing-ends form some e)
plain-of form (first ∷ second ∷ text) some e = step (plain-of form text some) (plain-of form (second ∷ text) some) (ends_piece form (first ∷ second ∷ text)) (begins_escape form first) refl refl e
  where
    Plain : (size : ℕ) → List ℕ → Type 0
    Plain size bytes = ends_piece form (drop size bytes) ≡ true → IsPlain form (drop size bytes) (take size bytes)

    two : 2 + plain_size form text ≡ suc (suc (plain_size form text))
    two = omega arith

    one : 1 + plain_size form (second ∷ text) ≡ suc (plain_size form (second ∷ text))
    one = omega arith

    step : (ends_piece form (drop (plain_size form text) text) ≡ true → IsPlain form (drop (plain_size form text) text) (take (plain_size form text) text)) →
        (ends_piece form (drop (plain_size form (second ∷ text)) (second ∷ text)) ≡ true → IsPlain form (drop (plain_size form (second ∷ text)) (second ∷ text)) (take (plain_size form (second ∷ text)) (second ∷ text))) →
        (stops escape : Bool) → ends_piece form (first ∷ second ∷ text) ≡ stops → begins_escape form first ≡ escape →
        (let size = if stops then 0 else (if escape then 2 + plain_size form text else 1 + plain_size form (second ∷ text)) in
        ends_piece form (drop size (first ∷ second ∷ text)) ≡ true → IsPlain form (drop size (first ∷ second ∷ text)) (take size (first ∷ second ∷ text)))
    step f g true escape p q = λ _. no_more
    step f g false true p q =
        subst (λ (size : ℕ). ends_piece form (drop size (first ∷ second ∷ text)) ≡ true → IsPlain form (drop size (first ∷ second ∷ text)) (take size (first ∷ second ∷ text))) (sym two)
        (λ e. escaped first second (subst (λ (t : List ℕ). ends_piece form (first ∷ second ∷ t) ≡ false) (sym (take-append-drop (plain_size form text) text)) p) q (f e))
    step f g false false p q =
        subst (λ (size : ℕ). ends_piece form (drop size (first ∷ second ∷ text)) ≡ true → IsPlain form (drop size (first ∷ second ∷ text)) (take size (first ∷ second ∷ text))) (sym one)
        (λ e. byte first (subst (λ (t : List ℕ). ends_piece form (first ∷ t) ≡ false) (sym (take-append-drop (plain_size form (second ∷ text)) (second ∷ text))) p) q (g e))

-- What the grammar says is read.

expression-complete : {braces : ℕ} {text : List ℕ} {ps : List Spelled} {rest : List ℕ} → IsExpression braces text ps rest → enough.expression braces text ≡ Some (record { pieces = ps; rest = rest })
expression-complete (closing {rest = rest}) = expression-step 0 (125 ∷ rest)
expression-complete (next {braces = braces} {first = first} {text = text} other more) =
    expression-step braces (first ∷ text) ∙ either-second (begins (first ∷ text) (codes "}") && braces == 0) _ _ other
    ∙ ap (option_map (behind (next_at enough false (first ∷ text)).pieces)) (expression-complete more)

-- a name doesn't begin with a brace
no-brace : (text : List ℕ) → begins_name text ≡ true → begins text (codes "${") ≡ false
no-brace text h = of (begins text (codes "${")) refl
  where
    of : (opening : Bool) → begins text (codes "${") ≡ opening → opening ≡ false
    of false e = refl
    of true e = let t : false ≡ true = subst (λ (x : List ℕ). begins_name x ≡ true) (begins-split (codes "${") text e) h in absurd (cc)

-- an interpolation, if one stands there
abbrev interpolation : Form → List ℕ → Option Read
interpolation form text =
    if form.raw then None
    else (if begins text (codes "${") then expression_row enough form text
    else (if begins_name text then name_row enough form text else None))

interpolation-begins : {form : Form} {text : List ℕ} {ps : List Spelled} {rest : List ℕ} → Interpolates form text ps rest → (begins_interpolation text ≡ true) × (1 ≤ length text)
interpolation-begins (by_name {text = text} h more) =
    let dollar : begins text (codes "$") ≡ true = (named-parts text (is_interpolated (take (name_size (drop 1 text)) (drop 1 text))) h).0 in
    (or_right (begins text (codes "${")) (begins_name text) h, omega (arith, ap length (begins-split (codes "$") text dollar)))
interpolation-begins (by_expression inner more) = (refl, omega arith)

pub begins-front : (bytes rest : List ℕ) → begins (bytes ++ rest) bytes ≡ true
begins-front [] rest = refl
begins-front (b ∷ bytes) rest = rw (eq-eqb b b refl) (begins-front bytes rest)

-- a string behind plain bytes
at_plain : (form : Form) (begun plain text : List ℕ) → 1 ≤ length form.quotes → plain_size form (plain ++ text) ≡ length plain → enough.parts form begun (plain ++ text) ≡ after_plain enough form begun plain text
at_plain form begun plain text some size =
    parts-step form begun (plain ++ text) some ∙ ap (λ (n : ℕ). after_plain enough form begun (take n (plain ++ text)) (drop n (plain ++ text))) size
    ∙ ap (λ (front : List ℕ). after_plain enough form begun front (drop (length plain) (plain ++ text))) (take-append_seam plain text) ∙ ap (after_plain enough form begun plain) (drop-front plain text)

mutual
  goes-complete : {form : Form} {begun text : List ℕ} {ps : List Spelled} {rest : List ℕ} → GoesOn form begun text ps rest → 1 ≤ length form.quotes → enough.parts form begun text ≡ Some (record { pieces = ps; rest = rest })
  goes-complete {form = form} (ends begun {plain = plain} {rest = rest} p) some =
      let found = begins-front form.quotes rest in
      let stops : ends_piece form (form.quotes ++ rest) ≡ true = or_left (begins (form.quotes ++ rest) form.quotes) (not form.raw && begins_interpolation (form.quotes ++ rest)) found in
      at_plain form begun plain (form.quotes ++ rest) some (plain-size form (form.quotes ++ rest) p stops (omega (arith, some, length-append form.quotes rest)))
      ∙ either-first (begins (form.quotes ++ rest) form.quotes) _ _ found
      ∙ ap (λ (left : List ℕ). Some (record { pieces = (last_class begun, begun ++ plain ++ form.quotes) ∷ []; rest = left })) (drop-front form.quotes rest)
  goes-complete {form = form} (interpolates begun {plain = plain} {behind = text} p other escaping more) some =
      let opened = interpolation-begins more in
      let here : (not form.raw && begins_interpolation text) ≡ true = rw escaping opened.0 in
      let stops : ends_piece form text ≡ true = or_right (begins text form.quotes) (not form.raw && begins_interpolation text) here in
      at_plain form begun plain text some (plain-size form text p stops opened.1)
      ∙ either-second (begins text form.quotes) _ _ other
      ∙ ap (option_map (behind (part_before begun plain))) (interpolation-complete more some escaping)

  interpolation-complete : {form : Form} {text : List ℕ} {ps : List Spelled} {rest : List ℕ} → Interpolates form text ps rest → 1 ≤ length form.quotes → form.raw ≡ false → interpolation form text ≡ Some (record { pieces = ps; rest = rest })
  interpolation-complete {form = form} (by_name {text = text} h more) some escaping =
      either-second form.raw None _ escaping ∙ either-second (begins text (codes "${")) _ _ (no-brace text h) ∙ either-first (begins_name text) _ None h
      ∙ ap (option_map (behind ((InterpolationMark, codes "$") ∷ (Word, take (name_size (drop 1 text)) (drop 1 text)) ∷ []))) (goes-complete more some)
  interpolation-complete {form = form} (by_expression {text = text} {inner = inner} {behind = left} e more) some escaping =
      either-second form.raw None _ escaping
      ∙ ap (option_and_then (λ (read : Read). option_map (behind ((InterpolationOpening, codes "${") ∷ read.pieces)) (enough.parts form [] read.rest))) (expression-complete e)
      ∙ ap (option_map (behind ((InterpolationOpening, codes "${") ∷ inner))) (goes-complete more some)

-- What is read is as the grammar says.

-- in texts of fewer bytes
record IsSound (count : ℕ) : Type 0 where
  goes : (form : Form) (begun text : List ℕ) (read : Read) → 1 ≤ length form.quotes → length text < count → enough.parts form begun text ≡ Some read → GoesOn form begun text read.pieces read.rest
  expression : (braces : ℕ) (text : List ℕ) (read : Read) → length text < count → enough.expression braces text ≡ Some read → IsExpression braces text read.pieces read.rest

expression-sound : (count : ℕ) → IsSound count → (braces : ℕ) (text : List ℕ) (read : Read) → length text < suc count → expression_pieces enough braces text ≡ Some read → IsExpression braces text read.pieces read.rest
expression-sound count law braces [] read less e = absurd (cc)
expression-sound count law braces (first ∷ text) read less e = row (begins (first ∷ text) (codes "}") && braces == 0) refl e
  where
    row : (closes : Bool) → (begins (first ∷ text) (codes "}") && braces == 0) ≡ closes →
        (if closes then Some (record { pieces = (InterpolationClosing, codes "}") ∷ []; rest = text })
        else option_map (behind (next_at enough false (first ∷ text)).pieces) (enough.expression (braces_behind braces (first ∷ text)) (next_at enough false (first ∷ text)).rest)) ≡ Some read →
        IsExpression braces (first ∷ text) read.pieces read.rest
    row true c e =
        let same = same_Some (record { pieces = (InterpolationClosing, codes "}") ∷ []; rest = text }) read e in
        let none : braces ≡ 0 = eqb-true braces 0 (and_parts (begins (first ∷ text) (codes "}")) (braces == 0) c).1 in
        subst (λ (r : Read). IsExpression braces (first ∷ text) r.pieces r.rest) same
        (subst (λ (t : List ℕ). IsExpression braces t ((InterpolationClosing, codes "}") ∷ []) text) (brace first text braces c)
        (subst (λ (n : ℕ). IsExpression n (125 ∷ text) ((InterpolationClosing, codes "}") ∷ []) text) (sym none) closing))
    row false c e =
        let m = mapped (behind (next_at enough false (first ∷ text)).pieces) (enough.expression (braces_behind braces (first ∷ text)) (next_at enough false (first ∷ text)).rest) read e in
        let shrinks = (next-fair enough enough-fair false first text).shrinks in
        subst (λ (r : Read). IsExpression braces (first ∷ text) r.pieces r.rest) m.2
        (next c (law.expression (braces_behind braces (first ∷ text)) (next_at enough false (first ∷ text)).rest m.0 (omega (arith, shrinks, less)) m.1))

-- an interpolation that is read, where one stands
record Found (form : Form) (text : List ℕ) (read : Read) : Type 0 where
  escaping : form.raw ≡ false
  begun : begins_interpolation text ≡ true
  is : Interpolates form text read.pieces read.rest

name-sound : (count : ℕ) → IsSound count → (form : Form) (text : List ℕ) (read : Read) → 1 ≤ length form.quotes → length text < suc count → begins_name text ≡ true → name_row enough form text ≡ Some read → Interpolates form text read.pieces read.rest
name-sound count law form text read some less h e =
    let m = mapped (behind ((InterpolationMark, codes "$") ∷ (Word, take (name_size (drop 1 text)) (drop 1 text)) ∷ [])) (enough.parts form [] (drop (1 + name_size (drop 1 text)) text)) read e in
    let dollar : begins text (codes "$") ≡ true = (named-parts text (is_interpolated (take (name_size (drop 1 text)) (drop 1 text))) h).0 in
    let long : 1 ≤ length text = omega (arith, ap length (begins-split (codes "$") text dollar)) in
    subst (λ (r : Read). Interpolates form text r.pieces r.rest) m.2
    (by_name h (law.goes form [] (drop (1 + name_size (drop 1 text)) text) m.0 some (omega (arith, less, long, length-drop (1 + name_size (drop 1 text)) text)) m.1))

opening-sound : (count : ℕ) → IsSound count → (form : Form) (text : List ℕ) (read : Read) → 1 ≤ length form.quotes → length text < suc count → begins text (codes "${") ≡ true → expression_row enough form text ≡ Some read → Interpolates form text read.pieces read.rest
opening-sound count law form text read some less h e =
    let split : text ≡ 36 ∷ 123 ∷ drop 2 text = begins-split (codes "${") text h in
    let c = chained (λ (inner : Read). option_map (behind ((InterpolationOpening, codes "${") ∷ inner.pieces)) (enough.parts form [] inner.rest)) (enough.expression 0 (drop 2 text)) read e in
    let m = mapped (behind ((InterpolationOpening, codes "${") ∷ c.0.pieces)) (enough.parts form [] c.0.rest) read c.2 in
    let short : length (drop 2 text) < count = omega (arith, less, ap length split) in
    let shrinks = (if_some (Fair (drop 2 text) (length (drop 2 text))) (enough.expression 0 (drop 2 text)) c.0 (enough-fair.expression 0 (drop 2 text)) c.1).shrinks in
    subst (λ (r : Read). Interpolates form text r.pieces r.rest) m.2
    (subst (λ (t : List ℕ). Interpolates form t ((InterpolationOpening, codes "${") ∷ (c.0.pieces ++ m.0.pieces)) m.0.rest) (sym split)
    (by_expression (law.expression 0 (drop 2 text) c.0 short c.1) (law.goes form [] c.0.rest m.0 some (omega (arith, shrinks, short)) m.1)))

interpolation-sound : (count : ℕ) → IsSound count → (form : Form) (text : List ℕ) (read : Read) → 1 ≤ length form.quotes → length text < suc count → interpolation form text ≡ Some read → Found form text read
interpolation-sound count law form text read some less e = of form.raw (begins text (codes "${")) (begins_name text) refl refl refl e
  where
    of : (raw opening named : Bool) → form.raw ≡ raw → begins text (codes "${") ≡ opening → begins_name text ≡ named →
        (if raw then None else (if opening then expression_row enough form text else (if named then name_row enough form text else None))) ≡ Some read → Found form text read
    of true opening named r o n e = absurd (cc)
    of false true named r o n e =
        record { escaping = r; begun = or_left (begins text (codes "${")) (begins_name text) o; is = opening-sound count law form text read some less o e }
    of false false true r o n e =
        record { escaping = r; begun = or_right (begins text (codes "${")) (begins_name text) n; is = name-sound count law form text read some less n e }
    of false false false r o n e = absurd (cc)

after-sound : (count : ℕ) → IsSound count → (form : Form) (begun plain text : List ℕ) (read : Read) → 1 ≤ length form.quotes → length text < suc count → (ends_piece form text ≡ true → IsPlain form text plain) →
    after_plain enough form begun plain text ≡ Some read → GoesOn form begun (plain ++ text) read.pieces read.rest
after-sound count law form begun plain text read some less is_plain e = of (begins text form.quotes) refl e
  where
    of : (found : Bool) → begins text form.quotes ≡ found →
        (if found then Some (record { pieces = (last_class begun, begun ++ plain ++ form.quotes) ∷ []; rest = drop (length form.quotes) text }) else option_map (behind (part_before begun plain)) (interpolation form text)) ≡ Some read →
        GoesOn form begun (plain ++ text) read.pieces read.rest
    of true f e =
        let split : text ≡ form.quotes ++ drop (length form.quotes) text = begins-split form.quotes text f in
        let stops : ends_piece form text ≡ true = or_left (begins text form.quotes) (not form.raw && begins_interpolation text) f in
        let pieces : List Spelled = (last_class begun, begun ++ plain ++ form.quotes) ∷ [] in
        subst (λ (r : Read). GoesOn form begun (plain ++ text) r.pieces r.rest) (same_Some (record { pieces = pieces; rest = drop (length form.quotes) text }) read e)
        (subst (λ (t : List ℕ). GoesOn form begun (plain ++ t) pieces (drop (length form.quotes) text)) (sym split)
        (ends begun (subst (λ (t : List ℕ). IsPlain form t plain) split (is_plain stops))))
    of false f e =
        let m = mapped (behind (part_before begun plain)) (interpolation form text) read e in
        let found = interpolation-sound count law form text m.0 some less m.1 in
        let here : (not form.raw && begins_interpolation text) ≡ true = rw found.escaping found.begun in
        let stops : ends_piece form text ≡ true = or_right (begins text form.quotes) (not form.raw && begins_interpolation text) here in
        subst (λ (r : Read). GoesOn form begun (plain ++ text) r.pieces r.rest) m.2 (interpolates begun (is_plain stops) f found.escaping found.is)

goes-sound : (count : ℕ) → IsSound count → (form : Form) (begun text : List ℕ) (read : Read) → 1 ≤ length form.quotes → length text < suc count → parts_row enough form begun text ≡ Some read → GoesOn form begun text read.pieces read.rest
goes-sound count law form begun text read some less e =
    let size : ℕ = plain_size form text in
    subst (λ (t : List ℕ). GoesOn form begun t read.pieces read.rest) (take-append-drop size text)
    (after-sound count law form begun (take size text) (drop size text) read some (omega (arith, less, length-drop size text)) (plain-of form text some) e)

sound : (count : ℕ) → IsSound count
sound zero = record { goes = λ form begun text read some less e. absurd (omega (arith, less)); expression = λ braces text read less e. absurd (omega (arith, less)) }
sound (suc count) = record {
  goes = λ form begun text read some less e. goes-sound count (sound count) form begun text read some less (sym (parts-step form begun text some) ∙ e);
  expression = λ braces text read less e. expression-sound count (sound count) braces text read less (sym (expression-step braces text) ∙ e);
}

-- A string stands first in a text.

string-chosen : (first : Bool) (text : List ℕ) (form : Form) (o : Option Form) → o ≡ Some form → option_map_or (λ f. string_at enough f text) o (read_piece first text) ≡ string_at enough form text
string-chosen first text form None e = absurd (cc)
string-chosen first text form (Some f) e = ap (λ (x : Form). string_at enough x text) (same_Some f form e)

begins-with : (text : List ℕ) (form : Form) (read : Read) → string_form text ≡ Some form → string_at enough form text ≡ read → BeginsWith text read
unfolding pieces
begins-with [] form read f e = absurd (cc)
begins-with (b ∷ text) form read f e = record {
  first = first-step true b text ∙ ap (λ (r : Read). r.pieces ++ pieces_behind r.rest) (string-chosen true (b ∷ text) form (string_form (b ∷ text)) f ∙ e);
  later = first-step false b text ∙ ap (λ (r : Read). r.pieces ++ pieces_behind r.rest) (string-chosen false (b ∷ text) form (string_form (b ∷ text)) f ∙ e);
}

-- the parts of the string with which a text begins
abbrev parts_of : Form → List ℕ → Option Read
parts_of form text = enough.parts form (opening_of form) (drop (length (opening_of form)) (within_reach form text))

-- a string, by its parts
abbrev by_parts : Form → List ℕ → Option Read → Read
by_parts form text parts = option_map_or (λ read. record { pieces = read.pieces; rest = read.rest ++ drop (length (within_reach form text)) text }) parts (unterminated form text)

pub whole_is_read : (text : List ℕ) → ForSome (string_form text) (λ form. (read : Read) → IsString form text read → BeginsWith text read)
whole_is_read text form e read is =
    begins-with text form read e (ap (by_parts form text) (goes-complete is.goes (opens text form e).some) ∙ ap (λ (rest : List ℕ). record { pieces = read.pieces; rest = rest }) (sym is.rest))

pub whole_or_never : (text : List ℕ) → ForSome (string_form text) (λ form. ((read : Read) × IsString form text read) ⊎ (((read : Read) → IsString form text read → ⊥) × BeginsWith text (unterminated form text)))
whole_or_never text form e = of (parts_of form text) refl
  where
    of : (o : Option Read) → parts_of form text ≡ o → ((read : Read) × IsString form text read) ⊎ (((read : Read) → IsString form text read → ⊥) × BeginsWith text (unterminated form text))
    of None none = inr (
      λ read is. let h : Some (record { pieces = read.pieces; rest = is.inside }) ≡ None = sym (goes-complete is.goes (opens text form e).some) ∙ none in absurd (cc),
      begins-with text form (unterminated form text) e (ap (by_parts form text) none),
    )
    of (Some read) found =
        let inside : List ℕ = drop (length (opening_of form)) (within_reach form text) in
        inl (record { pieces = read.pieces; rest = read.rest ++ drop (length (within_reach form text)) text }, record { inside = read.rest; goes = (sound (suc (length inside))).goes form (opening_of form) inside read (opens text form e).some (omega arith) found; rest = refl })
