-- What the functions of a cut rest on: they see a cut by what it holds.
use Rattle.std.proofs.Common.{◌≡◌, ℕ, zero, suc, ◌+◌, ◌-◌, ◌≤◌, ◌<◌, ◌==◌, true, false, List, [], ◌∷◌, ◌++◌, length, take, drop, codes, Option, Some, None, refl, sym, ap, subst, ◌∙◌, arith, length-drop, OnOk, min}
use Rattle.std.specs.Prelude.{slice_range, Ok, Err}
use Rattle.std.specs.Option.{option_map_or}
use Rattle.std.specs.declared.result.Result.{Result}
use Rattle.std.proofs.lemmas.List.{take_rest, drop-drop}
use Rattle.std.proofs.lemmas.List.Elements.{All-nil}
use Rattle.dart_scan.specs.declared.piece.Class.TheVariants.{Gap}
use Rattle.dart_scan.specs.declared.piece.Piece.{Piece}
use Rattle.dart_scan.specs.declared.cut.strings.OpenString.{OpenString}
use Rattle.dart_scan.specs.declared.cut.line.Line.{Line}
use Rattle.dart_scan.specs.declared.cut.cutting.Within.{Within}
use Rattle.dart_scan.specs.declared.cut.cutting.Within.TheVariants.{InCode, InString}
use Rattle.dart_scan.specs.Characters.{is_within_line}
use Rattle.dart_scan.specs.Lexemes.{begins, run}
use Rattle.dart_scan.specs.Strings.{Form, string_form, within_reach, plain_size}
use Rattle.dart_scan.specs.Pieces.{spelled, piece_at, string_at, within_steps, pieces_within, pieces}
use Rattle.dart_scan.specs.Openings.{shape}
use Rattle.dart_scan.specs.declared.cut.ending.Ending.TheVariants.{Quotes, Expression, Name, Never}
use Rattle.dart_scan.specs.Endings.{Escapes, IsNever, IsEnding}
use Rattle.dart_scan.specs.Suspended.{resumed}
use Rattle.dart_scan.specs.Cutting.{Cut, rest_of, Ends, all_suspended, to_come, Nested, Sound, Steps, IsDone, IsCode, added, continued, abandoned, closed, interpolated, named, fresh}
use Rattle.dart_scan.specs.FormLemmas.{begins-split}
use Rattle.dart_scan.specs.StepLemmas.{pieces-enough}
use Rattle.dart_scan.proofs.RangeLemmas.{range-last}
use Rattle.dart_scan.proofs.LineLemmas.{line-reach}
use Rattle.dart_scan.proofs.GrowthLemmas.{Grows, grows-added}
use Rattle.dart_scan.proofs.CuttingLemmas.{counted, innermost, continues, runs-out, done, closes, gives-up, opens-expression, opens-name}

-- A cut that has just begun.

pub begins-cut : (text : List ℕ) (line : Line) → Ends text line → line.from ≡ 0 → Sound (fresh text line)
unfolding Nested
begins-cut text line ends from = record {
  pieces = refl;
  some = All-nil (λ (p : Piece). 0 < p.size);
  within = omega arith;
  inside = omega arith;
  line = ends;
  from = omega (arith, from);
  stands = (omega arith, refl);
}

marked-none : (text : List ℕ) → begins text (239 ∷ 187 ∷ 191 ∷ []) ≡ true → string_form text ≡ None
marked-none text e = ap string_form (begins-split (239 ∷ 187 ∷ 191 ∷ []) text e)

unmarked : (steps : ℕ) (text : List ℕ) → begins text (239 ∷ 187 ∷ 191 ∷ []) ≡ false → pieces_within steps true text ≡ pieces_within steps false text
unfolding pieces_within
unmarked zero text e = refl
unmarked (suc steps) [] e = refl
unmarked (suc steps) (byte ∷ text) e =
    let same : piece_at true (byte ∷ text) ≡ piece_at false (byte ∷ text) = rw e refl in
    ap (λ p. (let next = option_map_or (λ form. string_at (within_steps (suc steps)) form (byte ∷ text)) (string_form (byte ∷ text)) (record { pieces = (p.class, take p.size (byte ∷ text)) ∷ []; rest = drop p.size (byte ∷ text) }) in next.pieces ++ pieces_within steps false next.rest)) same

pub begins-plain : (text : List ℕ) (line : Line) → begins text (239 ∷ 187 ∷ 191 ∷ []) ≡ false → to_come (fresh text line) ≡ pieces text
unfolding all_suspended resumed spelled pieces
begins-plain text line e =
    let whole : slice_range text 0 (length text) ≡ text = range-last text 0 in
    ap (λ t. pieces_within (length t) false t) whole ∙ sym (unmarked (length text) text e)

marked-pieces : (steps : ℕ) (text : List ℕ) → length text ≤ steps → begins text (239 ∷ 187 ∷ 191 ∷ []) ≡ true → pieces_within steps true text ≡ (Gap, take 3 text) ∷ pieces_within (length (drop 3 text)) false (drop 3 text)
unfolding pieces_within
marked-pieces steps [] h e = absurd (cc)
marked-pieces zero (byte ∷ text) h e = absurd (omega (arith, h))
marked-pieces (suc steps) (byte ∷ text) h e =
    let less : length (drop 3 (byte ∷ text)) ≤ steps = omega (arith, h, length-drop 3 (byte ∷ text)) in
    of (string_form (byte ∷ text)) (marked-none (byte ∷ text) e) (piece_at true (byte ∷ text)) (rw e refl)
    ∙ ap (λ ps. (Gap, take 3 (byte ∷ text)) ∷ ps) (pieces-enough steps (length (drop 3 (byte ∷ text))) false (drop 3 (byte ∷ text)) less (omega arith))
  where
    of : (o : Option Form) → o ≡ None → (p : Piece) → p ≡ record { class = Gap; size = 3 }
        → (let next = option_map_or (λ form. string_at (within_steps (suc steps)) form (byte ∷ text)) o (record { pieces = (p.class, take p.size (byte ∷ text)) ∷ []; rest = drop p.size (byte ∷ text) }) in next.pieces ++ pieces_within steps false next.rest)
        ≡ (Gap, take 3 (byte ∷ text)) ∷ pieces_within steps false (drop 3 (byte ∷ text))
    of None e p is = ap (λ q. (q.class, take q.size (byte ∷ text)) ∷ pieces_within steps false (drop q.size (byte ∷ text))) is
    of (Some form) e p is = absurd (cc)

pub marked-sound : (text : List ℕ) (line : Line) → Ends text line → line.from ≡ 0 → 3 ≤ length text → Sound (added Gap 3 (fresh text line))
unfolding Nested
marked-sound text line ends from some =
    let sound : Sound (fresh text line) = begins-cut text line ends from in
    let grown : Grows (fresh text line) (added Gap 3 (fresh text line)) _ = grows-added (fresh text line) Gap 3 (counted (fresh text line) sound) (omega arith) (omega (arith, some)) in
    record {
      pieces = grown.counted.pieces;
      some = grown.counted.some;
      within = omega (arith, some);
      inside = omega arith;
      line = ends;
      from = omega (arith, from);
      stands = (omega arith, refl);
    }

pub begins-marked : (text : List ℕ) (line : Line) → begins text (239 ∷ 187 ∷ 191 ∷ []) ≡ true → to_come (added Gap 3 (fresh text line)) ≡ pieces text
unfolding all_suspended resumed spelled pieces
begins-marked text line e =
    let rest : slice_range text 3 (length text) ≡ drop 3 text = range-last text 3 in
    ap (λ t. (Gap, take 3 text) ∷ pieces_within (length t) false t) rest ∙ sym (marked-pieces (length text) text (omega arith) e)

-- Steps in code.

pub on-ok : {T E : Type 0} {P Q : Type 0} (r : Result T E) → OnOk r P → (P → Q) → OnOk r Q
on-ok (Ok x) p f = f p
on-ok (Err e) p f = tt

code-of : (within : Within) → IsCode within → (braces : ℕ) × (within ≡ InCode braces)
code-of (InCode braces) h = (braces, refl)
code-of (InString string begun) h = absurd h

pub brace-steps : (view old new : Cut) (string : OpenString) (around : List OpenString) → view ≡ old → Sound old → old.within ≡ InCode 0 → old.at < old.end → begins (rest_of old) (codes "}") ≡ true → view.around ≡ string ∷ around
    → new ≡ continued string (record view { around = around }) → Steps old new
brace-steps view old new string around e s code some closes is made =
    subst (λ n. Steps old n) (sym (made ∙ ap (λ (v : Cut). continued string (record v { around = around })) e))
    (continues old string around s code some closes (ap (λ (v : Cut). v.around) (sym e) ∙ is))

pub run-start : (view old : Cut) (string : OpenString) (around : List OpenString) → view ≡ old → Sound old → IsCode old.within → view.around ≡ string ∷ around → string.start ≤ view.end
run-start view old string around e s code is =
    let (braces, here) = code-of old.within code in
    let less : string.start < old.end = innermost old string around braces s here (ap (λ (v : Cut). v.around) (sym e) ∙ is) in
    omega (arith, less, ap (λ (v : Cut). v.end) e)

pub run-end : (view old : Cut) → view ≡ old → Sound old → view.end ≤ length view.text
run-end view old e s = omega (arith, s.inside, ap (λ (v : Cut). v.end) e, ap (λ (v : Cut). length v.text) e)

pub run-steps : (view old new : Cut) (string : OpenString) (around : List OpenString) → view ≡ old → Sound old → IsCode old.within → old.at ≡ old.end → view.around ≡ string ∷ around
    → new ≡ abandoned string (record view { around = around }) → Steps old new
run-steps view old new string around e s code out is made =
    let (braces, here) = code-of old.within code in
    subst (λ n. Steps old n) (sym (made ∙ ap (λ (v : Cut). abandoned string (record v { around = around })) e))
    (runs-out old string around braces s here out (ap (λ (v : Cut). v.around) (sym e) ∙ is))

pub run-done : (view old : Cut) (after : List OpenString) → view ≡ old → Sound old → IsCode old.within → old.at ≡ old.end → view.around ≡ [] → after ≡ [] → IsDone old (record view { around = after })
run-done view old after e s code out is none =
    let (braces, here) = code-of old.within code in
    subst (λ n. IsDone old n) (sym (ap (λ (v : Cut). record v { around = after }) e ∙ ap (λ a. record old { around = a }) none))
    (done old braces s here out (ap (λ (v : Cut). v.around) (sym e) ∙ is))

pub reach-is : (view old : Cut) (form : Form) (last stop : ℕ) → view ≡ old → old.at ≤ old.end → (length form.quotes == 1) ≡ true → last ≡ view.at + run is_within_line (drop view.at view.text) → stop ≡ min last view.end
    → stop ≡ old.at + length (within_reach form (rest_of old))
reach-is view old form last stop e within one there is =
    let line : last ≡ old.at + run is_within_line (drop old.at old.text) = subst (λ (v : Cut). last ≡ v.at + run is_within_line (drop v.at v.text)) e there in
    rw one (is ∙ ap (λ (v : Cut). min last v.end) e ∙ line-reach old.text old.at old.end last within line)

-- the rest of a list, as a slice gives it
tail-is : (rest whole : List ℕ) (n : ℕ) → rest ≡ whole → take (length rest - n) (drop n rest) ≡ drop n whole
tail-is rest whole n e = take_rest rest n ∙ ap (drop n) e

plain-is : (form : Form) (rest whole : List ℕ) (begun plain : ℕ) → rest ≡ whole → plain ≡ plain_size form (take (length rest - begun) (drop begun rest)) → plain ≡ plain_size form (drop begun whole)
plain-is form rest whole begun plain e h = h ∙ ap (plain_size form) (tail-is rest whole begun e)

behind-is : (rest whole : List ℕ) (begun plain : ℕ) → rest ≡ whole → take (length rest - (begun + plain)) (drop (begun + plain) rest) ≡ drop plain (drop begun whole)
behind-is rest whole begun plain e = tail-is rest whole (begun + plain) e ∙ sym (drop-drop plain begun whole)

-- Steps in a string, by what was read of the rest of its text.

pub string-quotes : (old new : Cut) (string : OpenString) (begun plain : ℕ) (rest : List ℕ) → rest ≡ rest_of old → Sound old → old.within ≡ InString string begun
    → plain ≡ plain_size (shape string.form) (take (length rest - begun) (drop begun rest))
    → IsEnding (shape string.form) (take (length rest - (begun + plain)) (drop (begun + plain) rest)) Quotes
    → new ≡ closed string begun (begun + plain + length string.form.quotes.now) old → Steps old new
string-quotes old new string begun plain rest is s e h ends made =
    subst (λ n. Steps old n) (sym made)
    (closes old string begun plain (begun + plain + length string.form.quotes.now) s e (plain-is (shape string.form) rest (rest_of old) begun plain is h) refl
    (ap (λ t. begins t string.form.quotes.now) (sym (behind-is rest (rest_of old) begun plain is)) ∙ ends))

pub string-expression : (old new : Cut) (string : OpenString) (begun plain : ℕ) (rest : List ℕ) → rest ≡ rest_of old → Sound old → old.within ≡ InString string begun
    → plain ≡ plain_size (shape string.form) (take (length rest - begun) (drop begun rest))
    → IsEnding (shape string.form) (take (length rest - (begun + plain)) (drop (begun + plain) rest)) Expression
    → new ≡ interpolated string begun (begun + plain) old → Steps old new
string-expression old new string begun plain rest is s e h ends made =
    let ends' : Escapes (shape string.form) (drop plain (drop begun (rest_of old))) Expression = subst (λ t. Escapes (shape string.form) t Expression) (behind-is rest (rest_of old) begun plain is) ends in
    subst (λ n. Steps old n) (sym made)
    (opens-expression old string begun plain (begun + plain) s e (plain-is (shape string.form) rest (rest_of old) begun plain is h) refl ends'.no_quotes ends'.escaping ends'.interpolation)

pub string-name : (old new : Cut) (string : OpenString) (begun plain name : ℕ) (rest : List ℕ) → rest ≡ rest_of old → Sound old → old.within ≡ InString string begun
    → plain ≡ plain_size (shape string.form) (take (length rest - begun) (drop begun rest))
    → IsEnding (shape string.form) (take (length rest - (begun + plain)) (drop (begun + plain) rest)) (Name name)
    → new ≡ named string begun (begun + plain) name old → Steps old new
string-name old new string begun plain name rest is s e h ends made =
    let ends' : Escapes (shape string.form) (drop plain (drop begun (rest_of old))) (Name name) = subst (λ t. Escapes (shape string.form) t (Name name)) (behind-is rest (rest_of old) begun plain is) ends in
    subst (λ n. Steps old n) (sym made)
    (opens-name old string begun plain (begun + plain) name s e (plain-is (shape string.form) rest (rest_of old) begun plain is h) refl ends'.no_quotes ends'.escaping ends'.interpolation)

pub string-never : (old new : Cut) (string : OpenString) (begun plain : ℕ) (rest : List ℕ) → rest ≡ rest_of old → Sound old → old.within ≡ InString string begun
    → plain ≡ plain_size (shape string.form) (take (length rest - begun) (drop begun rest))
    → IsEnding (shape string.form) (take (length rest - (begun + plain)) (drop (begun + plain) rest)) Never
    → new ≡ abandoned string old → Steps old new
string-never old new string begun plain rest is s e h ends made =
    let ends' : IsNever (shape string.form) (drop plain (drop begun (rest_of old))) = subst (λ t. IsNever (shape string.form) t) (behind-is rest (rest_of old) begun plain is) ends in
    subst (λ n. Steps old n) (sym made)
    (gives-up old string begun plain s e (plain-is (shape string.form) rest (rest_of old) begun plain is h) ends'.no_quotes ends'.none)

-- a cut that has begun behind a byte order mark
pub marked-begins : (view made new : Cut) (text : List ℕ) → view ≡ made → made ≡ fresh text made.line → Ends text made.line → made.line.from ≡ 0 → begins text (239 ∷ 187 ∷ 191 ∷ []) ≡ true → new ≡ added Gap 3 view
    → Sound new × (to_come new ≡ pieces text)
marked-begins view made new text e is ends from marked more =
    let same : new ≡ added Gap 3 (fresh text made.line) = more ∙ ap (added Gap 3) (e ∙ is) in
    let some : 3 ≤ length text = omega (arith, ap length (begins-split (239 ∷ 187 ∷ 191 ∷ []) text marked)) in
    (subst (λ n. Sound n) (sym same) (marked-sound text made.line ends from some), ap to_come same ∙ begins-marked text made.line marked)

pub fresh-begins : (made : Cut) (text : List ℕ) → made ≡ fresh text made.line → Ends text made.line → made.line.from ≡ 0 → begins text (239 ∷ 187 ∷ 191 ∷ []) ≡ false → Sound made × (to_come made ≡ pieces text)
fresh-begins made text is ends from plain = (subst (λ n. Sound n) (sym is) (begins-cut text made.line ends from), ap to_come is ∙ begins-plain text made.line plain)
