-- A string with an interpolation by name is read again, and so is the rest of any string.
use Rattle.std.proofs.Common.{◌≡◌, ℕ, suc, ◌+◌, ◌<◌, ◌≤◌, ◌&&◌, not, Bool, true, false, List, [], ◌∷◌, ◌++◌, length, take, drop, nat_lt, codes, if◌then◌else◌, Some, None, option_map, refl, sym, ap, subst, ◌∙◌, arith, length-drop, length-take}
use Rattle.std.specs.List.{list_all}
use Rattle.std.proofs.lemmas.Bool.{or_right}
use Rattle.std.proofs.lemmas.List.{take-append-drop, drop_at, take_at}
use Rattle.std.proofs.lemmas.Option.{same_Some}
use Rattle.dart_scan.specs.Characters.{is_within_line}
use Rattle.dart_scan.specs.Lexemes.{begins, run}
use Rattle.dart_scan.specs.Strings.{Form, is_name_start, is_name_part, name_size, is_interpolated, begins_name, begins_interpolation, ends_piece, begins_escape, plain_size}
use Rattle.dart_scan.specs.declared.piece.Class.TheVariants.{Word, InterpolationMark, InterpolationOpening}
use Rattle.dart_scan.specs.Pieces.{Spelled, Read, behind, last_class, part_before, name_row, expression_row, after_plain, parts_row}
use Rattle.dart_scan.specs.Suspended.{enough}
use Rattle.dart_scan.specs.FormLemmas.{begins-split}
use Rattle.dart_scan.specs.StepLemmas.{bytes_of, named-parts}
use Rattle.tree_print.proofs.Alike.{Alike, ends, blank, same, NoBlank, no-blank, alike-behind, alike-less, run-alike, unbegun-alike}
use Rattle.tree_print.proofs.Plain.{Quoted, plain-again, name-within}
use Rattle.tree_print.proofs.Ended.{more, ended-behind, Starts, laid, relaid-starts, all-both, all-front, all-rest}
use Rattle.tree_print.proofs.Parts.{either-first, either-second, mapped, chained, some-quotes, PartsAgain, Law, at-plain, ends-parts, laid-part, starts-part, line-part, line-append, parts-alike, expression-parts}

starts-solid : NoBlank is_name_start
starts-solid = no-blank is_name_start refl refl refl refl

parts-solid : NoBlank is_name_part
parts-solid = no-blank is_name_part refl refl refl refl

name-alike : {n : ℕ} (text other : List ℕ) → Alike n text other → name_size text ≤ n → name_size other ≡ name_size text
name-alike text other ends h = omega (arith, h)
name-alike text other (blank byte tail e) h = ap (λ (s : Bool). if s then 1 + run is_name_part tail else 0) (starts-solid byte e) ∙ omega (arith, h)
name-alike text other (same {n = n} byte {text = tail} {other = rest} less a) h = of (is_name_start byte) (omega (arith, h, less))
  where
    of : (s : Bool) → (if s then 1 + run is_name_part tail else 0) ≤ suc n → (if s then 1 + run is_name_part rest else 0) ≡ (if s then 1 + run is_name_part tail else 0)
    of true h = let later = run-alike is_name_part parts-solid tail rest a (omega (arith, h)) in omega (arith, later)
    of false h = refl

name-parts : (count : ℕ) → Law count → (form : Form) → Quoted form → (begun plain text : List ℕ) (later : Read) → form.raw ≡ false → begins (36 ∷ text) form.quotes ≡ false → begins (36 ∷ text) (codes "${") ≡ false
    → begins_name (36 ∷ text) ≡ true → plain_size form (plain ++ (36 ∷ text)) ≡ length plain → length text ≤ count → 0 < name_size text → enough.parts form [] (drop (1 + name_size text) (36 ∷ text)) ≡ Some later
    → (rest : List ℕ) → Alike 0 later.rest rest
    → PartsAgain form begun (plain ++ (36 ∷ text)) (behind (part_before begun plain) (behind ((InterpolationMark, codes "$") ∷ (Word, take (name_size text) text) ∷ []) later)) rest
name-parts count law form q begun plain text later escaping other no-brace named size less some e2 rest a =
    let k : ℕ = name_size text in
    let name : List ℕ = take k text in
    let left : List ℕ = drop k text in
    let mark : Spelled = (InterpolationMark, codes "$") in
    let word : Spelled = (Word, name) in
    let one-more : 1 + k ≡ suc k = omega arith in
    let dropped : drop (1 + k) (36 ∷ text) ≡ left = ap (λ (n : ℕ). drop n (36 ∷ text)) one-more in
    let found : enough.parts form [] left ≡ Some later = sym (ap (enough.parts form []) dropped) ∙ e2 in
    let p : PartsAgain form [] left later rest = law.parts form q [] left later (omega (arith, length-drop k text, name-within text, some, less)) found rest a in
    let inside : Alike 0 left p.other = parts-alike form q left later rest found a p in
    let text' : List ℕ = name ++ p.other in
    let long : length name ≡ k = omega (arith, length-take k text, name-within text) in
    let all-shared : Alike (length name) text text' = subst (λ (t : List ℕ). Alike (length name) t text') (take-append-drop k text) (alike-behind name inside) in
    let sizes : name_size text' ≡ k = name-alike text text' all-shared (omega (arith, long)) in
    let taken' : take k text' ≡ name = take_at name p.other k long in
    let dropped' : drop (1 + k) (36 ∷ text') ≡ p.other = ap (λ (n : ℕ). drop n (36 ∷ text')) one-more ∙ drop_at name p.other k long in
    let shared : Alike 0 text text' = alike-less 0 (omega arith) all-shared in
    let further : Alike 0 (36 ∷ text) (36 ∷ text') = same 36 (omega arith) shared in
    let named' : begins_name (36 ∷ text') ≡ true =
    ap (λ (m : ℕ). begins (36 ∷ text') (codes "$") && (nat_lt 0 m && is_interpolated (take m text'))) sizes
    ∙ ap (λ (w : List ℕ). begins (36 ∷ text') (codes "$") && (nat_lt 0 k && is_interpolated w)) taken' ∙ named in
    let no-brace' : begins (36 ∷ text') (codes "${") ≡ false = unbegun-alike (codes "${") (36 ∷ text) (36 ∷ text') refl further no-brace in
    let opened : begins_interpolation (36 ∷ text') ≡ true = or_right (begins (36 ∷ text') (codes "${")) (begins_name (36 ∷ text')) named' in
    let stops : ends_piece form (36 ∷ text') ≡ true =
    or_right (begins (36 ∷ text') form.quotes) (not form.raw && begins_interpolation (36 ∷ text')) (ap (λ (r : Bool). not r && begins_interpolation (36 ∷ text')) escaping ∙ opened) in
    let other' : begins (36 ∷ text') form.quotes ≡ false = unbegun-alike form.quotes (36 ∷ text) (36 ∷ text') q.solid further other in
    let size' : plain_size form (plain ++ (36 ∷ text')) ≡ length plain = plain-again form 36 text text' q.solid refl refl shared stops plain size in
    let begins-here : Starts ((mark ∷ word ∷ []) ++ later.pieces) = record { first = mark; rest = word ∷ later.pieces; is = refl; lexeme = refl } in
    let all : laid (part_before begun plain ++ ((mark ∷ word ∷ []) ++ later.pieces)) ≡ part_before begun plain ++ ((mark ∷ word ∷ []) ++ laid later.pieces) =
    laid-part begun plain ((mark ∷ word ∷ []) ++ later.pieces) begins-here ∙ ap (λ (xs : List Spelled). part_before begun plain ++ (mark ∷ word ∷ xs)) (relaid-starts later.pieces p.starts (Some Word) false) in
    let row : name_row enough form (36 ∷ text') ≡ Some (behind (mark ∷ word ∷ []) (record { pieces = laid later.pieces; rest = rest })) =
    ap (λ (m : ℕ). option_map (behind (mark ∷ (Word, take m text') ∷ [])) (enough.parts form [] (drop (1 + m) (36 ∷ text')))) sizes
    ∙ ap (λ (w : List ℕ). option_map (behind (mark ∷ (Word, w) ∷ [])) (enough.parts form [] (drop (1 + k) (36 ∷ text')))) taken'
    ∙ ap (λ (t : List ℕ). option_map (behind (mark ∷ word ∷ [])) (enough.parts form [] t)) dropped'
    ∙ ap (option_map (behind (mark ∷ word ∷ []))) p.again in
    record {
      other = plain ++ (36 ∷ text');
      again = at-plain form begun plain (36 ∷ text') (some-quotes form q) size'
          ∙ either-second (begins (36 ∷ text') form.quotes) _ _ other'
          ∙ ap (option_map (behind (part_before begun plain)))
          (either-second form.raw None _ escaping ∙ either-second (begins (36 ∷ text') (codes "${")) _ _ no-brace' ∙ either-first (begins_name (36 ∷ text')) _ None named' ∙ row)
          ∙ ap (λ (ps : List Spelled). Some (record { pieces = ps; rest = rest })) (sym all);
      starts = starts-part begun plain ((mark ∷ word ∷ []) ++ later.pieces) begins-here;
      ended = ended-behind (part_before begun plain) (more mark (more word p.ended));
      line = λ b t.
          let texts : list_all is_within_line text ≡ true = all-rest is_within_line (36 ∷ []) text (all-rest is_within_line plain (36 ∷ text) t) in
          let both : list_all is_within_line (name ++ left) ≡ true = subst (λ (bs : List ℕ). list_all is_within_line bs ≡ true) (sym (take-append-drop k text)) texts in
          subst (λ (ps : List Spelled). list_all is_within_line (bytes_of ps) ≡ true) (sym all)
          (line-append (part_before begun plain) ((mark ∷ word ∷ []) ++ laid later.pieces) (line-part begun plain b (all-front is_within_line plain (36 ∷ text) t))
          (all-both is_within_line name (bytes_of (laid later.pieces)) (all-front is_within_line name left both) (p.line refl (all-rest is_within_line name left both))));
    }

-- What ends a piece.

interpolation-parts : (count : ℕ) → Law count → (form : Form) → Quoted form → (begun plain text : List ℕ) (read : Read) → begins text form.quotes ≡ false → plain_size form (plain ++ text) ≡ length plain → length text ≤ count
    → (if form.raw then None else (if begins text (codes "${") then expression_row enough form text else (if begins_name text then name_row enough form text else None))) ≡ Some read
    → (rest : List ℕ) → Alike 0 read.rest rest → PartsAgain form begun (plain ++ text) (behind (part_before begun plain) read) rest
interpolation-parts count law form q begun plain text read other size less e rest a = of form.raw (begins text (codes "${")) (begins_name text) refl refl refl e
  where
    by-expression : form.raw ≡ false → begins text (codes "${") ≡ true → expression_row enough form text ≡ Some read → PartsAgain form begun (plain ++ text) (behind (part_before begun plain) read) rest
    by-expression escaping f e =
        let c = chained (λ (inner : Read). option_map (behind ((InterpolationOpening, codes "${") ∷ inner.pieces)) (enough.parts form [] inner.rest)) (enough.expression 0 (drop 2 text)) read e in
        let m = mapped (behind ((InterpolationOpening, codes "${") ∷ c.0.pieces)) (enough.parts form [] c.0.rest) read c.2 in
        let split : text ≡ 36 ∷ 123 ∷ drop 2 text = begins-split (codes "${") text f in
        let short : length (drop 2 text) < count = omega (arith, less, ap length split) in
        subst (λ (r : Read). PartsAgain form begun (plain ++ text) (behind (part_before begun plain) r) rest) m.2
        (subst (λ (t : List ℕ). PartsAgain form begun (plain ++ t) (behind (part_before begun plain) (behind ((InterpolationOpening, codes "${") ∷ c.0.pieces) m.0)) rest) (sym split)
        (expression-parts count law form q begun plain (drop 2 text) c.0 m.0 escaping (subst (λ (t : List ℕ). begins t form.quotes ≡ false) split other)
        (subst (λ (t : List ℕ). plain_size form (plain ++ t) ≡ length plain) split size) short c.1 m.1 rest (subst (λ (r : Read). Alike 0 r.rest rest) (sym m.2) a)))

    by-name : form.raw ≡ false → begins text (codes "${") ≡ false → begins_name text ≡ true → name_row enough form text ≡ Some read → PartsAgain form begun (plain ++ text) (behind (part_before begun plain) read) rest
    by-name escaping no-brace f e =
        let k : ℕ = name_size (drop 1 text) in
        let front : List Spelled = (InterpolationMark, codes "$") ∷ (Word, take k (drop 1 text)) ∷ [] in
        let m = mapped (behind front) (enough.parts form [] (drop (1 + k) text)) read e in
        let known = named-parts text (is_interpolated (take k (drop 1 text))) f in
        let split : text ≡ 36 ∷ drop 1 text = begins-split (codes "$") text known.0 in
        subst (λ (r : Read). PartsAgain form begun (plain ++ text) (behind (part_before begun plain) r) rest) m.2
        (subst (λ (t : List ℕ). PartsAgain form begun (plain ++ t) (behind (part_before begun plain) (behind front m.0)) rest) (sym split)
        (name-parts count law form q begun plain (drop 1 text) m.0 escaping (subst (λ (t : List ℕ). begins t form.quotes ≡ false) split other) (subst (λ (t : List ℕ). begins t (codes "${") ≡ false) split no-brace)
        (subst (λ (t : List ℕ). begins_name t ≡ true) split f) (subst (λ (t : List ℕ). plain_size form (plain ++ t) ≡ length plain) split size) (omega (arith, less, ap length split)) known.1
        (subst (λ (t : List ℕ). enough.parts form [] (drop (1 + k) t) ≡ Some m.0) split m.1) rest (subst (λ (r : Read). Alike 0 r.rest rest) (sym m.2) a)))

    of : (raw brace name : Bool) → form.raw ≡ raw → begins text (codes "${") ≡ brace → begins_name text ≡ name
        → (if raw then None else (if brace then expression_row enough form text else (if name then name_row enough form text else None))) ≡ Some read
        → PartsAgain form begun (plain ++ text) (behind (part_before begun plain) read) rest
    of true brace name r b n e = absurd (cc)
    of false true name r b n e = by-expression r b e
    of false false true r b n e = by-name r b n e
    of false false false r b n e = absurd (cc)

behind-plain : (count : ℕ) → Law count → (form : Form) → Quoted form → (begun plain text : List ℕ) (read : Read) → plain_size form (plain ++ text) ≡ length plain → length text ≤ count
    → after_plain enough form begun plain text ≡ Some read → (rest : List ℕ) → Alike 0 read.rest rest → PartsAgain form begun (plain ++ text) read rest
behind-plain count law form q begun plain text read size less e rest a = of (begins text form.quotes) refl e
  where
    ended : Read
    ended = record { pieces = (last_class begun, begun ++ plain ++ form.quotes) ∷ []; rest = drop (length form.quotes) text }

    of : (s : Bool) → begins text form.quotes ≡ s
        → (if s then Some (record { pieces = (last_class begun, begun ++ plain ++ form.quotes) ∷ []; rest = drop (length form.quotes) text })
        else option_map (behind (part_before begun plain)) (if form.raw then None else (if begins text (codes "${") then expression_row enough form text else (if begins_name text then name_row enough form text else None)))) ≡ Some read
        → PartsAgain form begun (plain ++ text) read rest
    of true f e =
        let last : Read = record { pieces = (last_class begun, begun ++ plain ++ form.quotes) ∷ []; rest = drop (length form.quotes) text } in
        let is : last ≡ read = same_Some last read e in
        let split : text ≡ form.quotes ++ drop (length form.quotes) text = begins-split form.quotes text f in
        subst (λ (r : Read). PartsAgain form begun (plain ++ text) r rest) is
        (subst (λ (t : List ℕ). PartsAgain form begun (plain ++ t) last rest) (sym split)
        (ends-parts form q begun plain (drop (length form.quotes) text) rest (subst (λ (t : List ℕ). plain_size form (plain ++ t) ≡ length plain) split size) (subst (λ (r : Read). Alike 0 r.rest rest) (sym is) a)))
    of false f e =
        let m = mapped (behind (part_before begun plain)) (if form.raw then None else (if begins text (codes "${") then expression_row enough form text else (if begins_name text then name_row enough form text else None))) read e in
        subst (λ (r : Read). PartsAgain form begun (plain ++ text) r rest) m.2
        (interpolation-parts count law form q begun plain text m.0 f size less m.1 rest (subst (λ (r : Read). Alike 0 r.rest rest) (sym m.2) a))

plain-within : (form : Form) (text : List ℕ) → plain_size form text ≤ length text
unfolding plain_size
plain-within form [] = omega arith
plain-within form (b ∷ []) = of (ends_piece form (b ∷ []))
  where
    of : (s : Bool) → (if s then 0 else 1) ≤ 1
    of true = omega arith
    of false = omega arith
plain-within form (b ∷ c ∷ text) = of (ends_piece form (b ∷ c ∷ text)) (begins_escape form b) (plain-within form text) (plain-within form (c ∷ text))
  where
    of : (s e : Bool) → plain_size form text ≤ length text → plain_size form (c ∷ text) ≤ suc (length text) → (if s then 0 else (if e then 2 + plain_size form text else 1 + plain_size form (c ∷ text))) ≤ suc (suc (length text))
    of true e h k = omega arith
    of false true h k = omega (arith, h)
    of false false h k = omega (arith, k)

-- The rest of a string is read again, where shorter ones are.
pub parts-again : (count : ℕ) → Law count → (form : Form) → Quoted form → (begun text : List ℕ) (read : Read) → length text ≤ count → parts_row enough form begun text ≡ Some read
    → (rest : List ℕ) → Alike 0 read.rest rest → PartsAgain form begun text read rest
parts-again count law form q begun text read less e rest a =
    let size : ℕ = plain_size form text in
    let whole : take size text ++ drop size text ≡ text = take-append-drop size text in
    let long : length (take size text) ≡ size = omega (arith, length-take size text, plain-within form text) in
    subst (λ (t : List ℕ). PartsAgain form begun t read rest) whole
    (behind-plain count law form q begun (take size text) (drop size text) read (ap (plain_size form) whole ∙ sym long) (omega (arith, less, length-drop size text)) e rest a)
