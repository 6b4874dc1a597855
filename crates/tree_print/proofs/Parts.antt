-- A string that is read goes on alike where its gaps are laid anew.
use Rattle.std.proofs.Common.{◌≡◌, ℕ, ◌<◌, ◌≤◌, ◌&&◌, not, Bool, true, false, List, [], ◌∷◌, ◌++◌, length, take, drop, codes, if◌then◌else◌, Option, Some, None, option_map, refl, sym, ap, subst, ◌∙◌, arith}
use Rattle.std.specs.Prelude.{IfSome, option_and_then}
use Rattle.std.specs.List.{list_all}
use Rattle.std.proofs.lemmas.Bool.{or_left, or_right}
use Rattle.std.proofs.lemmas.Option.{same_Some}
use Rattle.std.proofs.Math.Seq.{take-append_seam}
use Rattle.dart_scan.specs.Characters.{is_blank, is_within_line}
use Rattle.dart_scan.specs.Lexemes.{begins}
use Rattle.dart_scan.specs.Strings.{Form, begins_interpolation, ends_piece, plain_size}
use Rattle.dart_scan.specs.declared.piece.Class.{Class}
use Rattle.dart_scan.specs.declared.piece.Class.TheVariants.{StringOpening, StringPart, StringClosing, InterpolationOpening, InterpolationClosing}
use Rattle.dart_scan.specs.Pieces.{Spelled, Read, behind, last_class, part_before, after_plain}
use Rattle.dart_scan.specs.Scanned.{is_gap}
use Rattle.dart_scan.specs.Suspended.{enough}
use Rattle.dart_scan.specs.FormLemmas.{drop-front}
use Rattle.dart_scan.specs.StepLemmas.{bytes_of, bytes_of-append, Fair}
use Rattle.dart_scan.specs.StringGrammar.{begins-front}
use Rattle.dart_scan.specs.ResumeLemmas.{enough-fair, parts-step}
use Rattle.tree_print.proofs.Alike.{Alike, same, alike-behind, alike-less, unbegun-alike}
use Rattle.tree_print.proofs.Plain.{Quoted, plain-again}
use Rattle.tree_print.proofs.Relaid.{separator_byte, relaid, relaid-lexeme}
use Rattle.tree_print.proofs.Ended.{Ended, one, ended-behind, ended-closes, ended-alike, Starts, laid, relaid-starts, all-both, all-front, all-rest}

pub either-first : {A : Type 0} (b : Bool) (x y : A) → b ≡ true → (if b then x else y) ≡ x
either-first true x y e = refl
either-first false x y e = absurd (cc)

pub either-second : {A : Type 0} (b : Bool) (x y : A) → b ≡ false → (if b then x else y) ≡ y
either-second true x y e = absurd (cc)
either-second false x y e = refl

pub mapped : {A B : Type 0} (f : A → B) (o : Option A) (b : B) → option_map f o ≡ Some b → (a : A) × (o ≡ Some a) × (f a ≡ b)
mapped f None b e = absurd (cc)
mapped f (Some a) b e = (a, refl, same_Some (f a) b e)

pub chained : {A B : Type 0} (f : A → Option B) (o : Option A) (b : B) → option_and_then f o ≡ Some b → (a : A) × (o ≡ Some a) × (f a ≡ Some b)
chained f None b e = absurd (cc)
chained f (Some a) b e = (a, refl, e)

if_some : {A : Type 0} (P : A → Type 0) (o : Option A) (a : A) → IfSome o P → o ≡ Some a → P a
if_some P None a h e = absurd (cc)
if_some P (Some x) a h e = subst P (same_Some x a e) h

pub some-quotes : (form : Form) → Quoted form → 1 ≤ length form.quotes
some-quotes form q = omega (arith, ap length q.is)

pub parts-fair : (form : Form) (begun text : List ℕ) (read : Read) → 1 ≤ length form.quotes → enough.parts form begun text ≡ Some read → Fair (begun ++ text) (length text) read
parts-fair form begun text read some e = if_some (Fair (begun ++ text) (length text)) (enough.parts form begun text) read (enough-fair.parts form begun text some) e

pub expression-fair : (braces : ℕ) (text : List ℕ) (read : Read) → enough.expression braces text ≡ Some read → Fair text (length text) read
expression-fair braces text read e = if_some (Fair text (length text)) (enough.expression braces text) read (enough-fair.expression braces text) e

-- The rest of a string is read again: another text, of the same pieces laid anew.
pub record PartsAgain (form : Form) (begun text : List ℕ) (read : Read) (rest : List ℕ) : Type 0 where
  pub other : List ℕ
  pub again : enough.parts form begun other ≡ Some (record { pieces = laid read.pieces; rest = rest })
  pub starts : Starts read.pieces
  pub ended : Ended read.pieces 32
  pub line : list_all is_within_line begun ≡ true → list_all is_within_line text ≡ true → list_all is_within_line (bytes_of (laid read.pieces)) ≡ true

-- What an interpolation holds is read again, behind a lexeme of any class, and behind a gap or not.
pub record ExpressionAgain (braces : ℕ) (text : List ℕ) (read : Read) (rest : List ℕ) : Type 0 where
  pub again : (before : Class) (wide : Bool) → enough.expression braces (bytes_of (relaid (Some before) wide read.pieces) ++ rest) ≡ Some (record { pieces = relaid (Some before) wide read.pieces; rest = rest })
  pub ended : Ended read.pieces 32
  pub line : (before : Class) (wide : Bool) → is_within_line (separator_byte before) ≡ true → list_all is_within_line text ≡ true → list_all is_within_line (bytes_of (relaid (Some before) wide read.pieces)) ≡ true
  pub white : (first : ℕ) (tail : List ℕ) → text ≡ first ∷ tail → is_blank first ≡ true → (before : Class) → relaid (Some before) false read.pieces ≡ relaid (Some before) true read.pieces

-- in texts of fewer bytes
pub record Law (count : ℕ) : Type 0 where
  pub parts : (form : Form) → Quoted form → (begun text : List ℕ) (read : Read) → length text < count → enough.parts form begun text ≡ Some read → (rest : List ℕ) → Alike 0 read.rest rest → PartsAgain form begun text read rest
  pub expression : (braces : ℕ) (text : List ℕ) (read : Read) → length text < count → enough.expression braces text ≡ Some read → (rest : List ℕ) → Alike 0 read.rest rest → ExpressionAgain braces text read rest

-- a string behind plain bytes
pub at-plain : (form : Form) (begun plain text : List ℕ) → 1 ≤ length form.quotes → plain_size form (plain ++ text) ≡ length plain → enough.parts form begun (plain ++ text) ≡ after_plain enough form begun plain text
at-plain form begun plain text some size =
    parts-step form begun (plain ++ text) some ∙ ap (λ (n : ℕ). after_plain enough form begun (take n (plain ++ text)) (drop n (plain ++ text))) size
    ∙ ap (λ (front : List ℕ). after_plain enough form begun front (drop (length plain) (plain ++ text))) (take-append_seam plain text) ∙ ap (after_plain enough form begun plain) (drop-front plain text)

-- A string ends.

last-lexeme : (begun : List ℕ) → is_gap (last_class begun) ≡ false
last-lexeme [] = refl
last-lexeme (b ∷ begun) = refl

last-byte : (begun : List ℕ) → separator_byte (last_class begun) ≡ 32
last-byte [] = refl
last-byte (b ∷ begun) = refl

pub ends-parts : (form : Form) → Quoted form → (begun plain behind rest : List ℕ) → plain_size form (plain ++ (form.quotes ++ behind)) ≡ length plain → Alike 0 behind rest
    → PartsAgain form begun (plain ++ (form.quotes ++ behind)) (record { pieces = (last_class begun, begun ++ plain ++ form.quotes) ∷ []; rest = behind }) rest
ends-parts form q begun plain behind rest size a =
    let quotes : List ℕ = form.quotes in
    let piece : Spelled = (last_class begun, begun ++ plain ++ quotes) in
    let found : begins (quotes ++ rest) quotes ≡ true = begins-front quotes rest in
    let stops : ends_piece form (quotes ++ rest) ≡ true = or_left (begins (quotes ++ rest) quotes) (not form.raw && begins_interpolation (quotes ++ rest)) found in
    let size' : plain_size form (plain ++ (quotes ++ rest)) ≡ length plain =
    subst (λ (qs : List ℕ). plain_size form (plain ++ (qs ++ rest)) ≡ length plain) (sym q.is)
    (plain-again form q.first (q.more ++ behind) (q.more ++ rest) q.solid q.start q.part (alike-less 0 (omega arith) (alike-behind q.more a)) (subst (λ (qs : List ℕ). ends_piece form (qs ++ rest) ≡ true) q.is stops) plain
    (subst (λ (qs : List ℕ). plain_size form (plain ++ (qs ++ behind)) ≡ length plain) q.is size)) in
    let laid-one : laid (piece ∷ []) ≡ piece ∷ [] = relaid-lexeme (Some StringClosing) false piece [] (last-lexeme begun) in
    record {
      other = plain ++ (quotes ++ rest);
      again = at-plain form begun plain (quotes ++ rest) (some-quotes form q) size'
          ∙ either-first (begins (quotes ++ rest) quotes) _ _ found
          ∙ ap (λ (left : List ℕ). Some (record { pieces = piece ∷ []; rest = left })) (drop-front quotes rest)
          ∙ ap (λ (ps : List Spelled). Some (record { pieces = ps; rest = rest })) (sym laid-one);
      starts = record { first = piece; rest = []; is = refl; lexeme = last-lexeme begun };
      ended = subst (λ (b : ℕ). Ended (piece ∷ []) b) (last-byte begun) (one piece (last-lexeme begun));
      line = λ b t. subst (λ (ps : List Spelled). list_all is_within_line (bytes_of ps) ≡ true) (sym laid-one)
          (all-both is_within_line (begun ++ plain ++ quotes) [] (all-both is_within_line (begun ++ plain) quotes (all-both is_within_line begun plain b (all-front is_within_line plain (quotes ++ behind) t))
          (all-front is_within_line quotes behind (all-rest is_within_line plain (quotes ++ behind) t))) refl);
    }

-- A piece before an interpolation.

pub laid-part : (begun plain : List ℕ) (ps : List Spelled) → Starts ps → laid (part_before begun plain ++ ps) ≡ part_before begun plain ++ laid ps
laid-part [] [] ps s = refl
laid-part [] (b ∷ plain) ps s = ap (λ (xs : List Spelled). (StringPart, b ∷ plain) ∷ xs) (relaid-starts ps s (Some StringPart) false)
laid-part (b ∷ begun) plain ps s = ap (λ (xs : List Spelled). (StringOpening, b ∷ begun ++ plain) ∷ xs) (relaid-starts ps s (Some StringOpening) false)

pub starts-part : (begun plain : List ℕ) (ps : List Spelled) → Starts ps → Starts (part_before begun plain ++ ps)
starts-part [] [] ps s = s
starts-part [] (b ∷ plain) ps s = record { first = (StringPart, b ∷ plain); rest = ps; is = refl; lexeme = refl }
starts-part (b ∷ begun) plain ps s = record { first = (StringOpening, b ∷ begun ++ plain); rest = ps; is = refl; lexeme = refl }

pub line-part : (begun plain : List ℕ) → list_all is_within_line begun ≡ true → list_all is_within_line plain ≡ true → list_all is_within_line (bytes_of (part_before begun plain)) ≡ true
line-part [] [] h k = refl
line-part [] (b ∷ plain) h k = all-both is_within_line (b ∷ plain) [] k refl
line-part (b ∷ begun) plain h k = all-both is_within_line (b ∷ begun ++ plain) [] (all-both is_within_line (b ∷ begun) plain h k) refl

pub line-append : (ps qs : List Spelled) → list_all is_within_line (bytes_of ps) ≡ true → list_all is_within_line (bytes_of qs) ≡ true → list_all is_within_line (bytes_of (ps ++ qs)) ≡ true
line-append ps qs h k = subst (λ (bs : List ℕ). list_all is_within_line bs ≡ true) (sym (bytes_of-append ps qs)) (all-both is_within_line (bytes_of ps) (bytes_of qs) h k)

-- the rest of a string goes on alike
pub parts-alike : (form : Form) → Quoted form → (text : List ℕ) (read : Read) (rest : List ℕ) → enough.parts form [] text ≡ Some read → Alike 0 read.rest rest → (p : PartsAgain form [] text read rest) → Alike 0 text p.other
parts-alike form q text read rest e a p =
    let old : bytes_of read.pieces ++ read.rest ≡ text = (parts-fair form [] text read (some-quotes form q) e).cover in
    let new : bytes_of (laid read.pieces) ++ rest ≡ p.other = (parts-fair form [] p.other (record { pieces = laid read.pieces; rest = rest }) (some-quotes form q) p.again).cover in
    subst (λ (t : List ℕ). Alike 0 t p.other) old (subst (λ (t : List ℕ). Alike 0 (bytes_of read.pieces ++ read.rest) t) new (ended-alike p.ended StringClosing false read.rest rest a))

-- An interpolation of an expression.

pub expression-parts : (count : ℕ) → Law count → (form : Form) → Quoted form → (begun plain text : List ℕ) (inner later : Read) → form.raw ≡ false → begins (36 ∷ 123 ∷ text) form.quotes ≡ false
    → plain_size form (plain ++ (36 ∷ 123 ∷ text)) ≡ length plain → length text < count → enough.expression 0 text ≡ Some inner → enough.parts form [] inner.rest ≡ Some later → (rest : List ℕ) → Alike 0 later.rest rest
    → PartsAgain form begun (plain ++ (36 ∷ 123 ∷ text)) (behind (part_before begun plain) (behind ((InterpolationOpening, codes "${") ∷ inner.pieces) later)) rest
expression-parts count law form q begun plain text inner later escaping other size less e1 e2 rest a =
    let opening : Spelled = (InterpolationOpening, codes "${") in
    let fair : Fair text (length text) inner = expression-fair 0 text inner e1 in
    let p : PartsAgain form [] inner.rest later rest = law.parts form q [] inner.rest later (omega (arith, less, fair.shrinks)) e2 rest a in
    let inside : Alike 0 inner.rest p.other = parts-alike form q inner.rest later rest e2 a p in
    let e : ExpressionAgain 0 text inner p.other = law.expression 0 text inner less e1 p.other inside in
    let new : List Spelled = relaid (Some InterpolationOpening) false inner.pieces in
    let text' : List ℕ = bytes_of new ++ p.other in
    let alike : Alike 0 text text' = subst (λ (t : List ℕ). Alike 0 t text') fair.cover (ended-alike e.ended InterpolationOpening false inner.rest p.other inside) in
    let shared : Alike 0 (123 ∷ text) (123 ∷ text') = same 123 (omega arith) alike in
    let opened : begins_interpolation (36 ∷ 123 ∷ text') ≡ true = refl in
    let stops : ends_piece form (36 ∷ 123 ∷ text') ≡ true = or_right (begins (36 ∷ 123 ∷ text') form.quotes) (not form.raw && begins_interpolation (36 ∷ 123 ∷ text')) (ap (λ (r : Bool). not r && true) escaping) in
    let other' : begins (36 ∷ 123 ∷ text') form.quotes ≡ false = unbegun-alike form.quotes (36 ∷ 123 ∷ text) (36 ∷ 123 ∷ text') q.solid (same {m = 0} 36 (omega arith) shared) other in
    let size' : plain_size form (plain ++ (36 ∷ 123 ∷ text')) ≡ length plain = plain-again form 36 (123 ∷ text) (123 ∷ text') q.solid refl refl shared stops plain size in
    let begins-here : Starts ((opening ∷ inner.pieces) ++ later.pieces) = record { first = opening; rest = inner.pieces ++ later.pieces; is = refl; lexeme = refl } in
    let within : relaid (Some InterpolationOpening) false (inner.pieces ++ later.pieces) ≡ new ++ laid later.pieces =
    ended-closes e.ended InterpolationClosing refl (Some InterpolationOpening) false later.pieces ∙ ap (λ (xs : List Spelled). new ++ xs) (relaid-starts later.pieces p.starts (Some InterpolationClosing) false) in
    let all : laid (part_before begun plain ++ ((opening ∷ inner.pieces) ++ later.pieces)) ≡ part_before begun plain ++ ((opening ∷ new) ++ laid later.pieces) =
    laid-part begun plain ((opening ∷ inner.pieces) ++ later.pieces) begins-here ∙ ap (λ (xs : List Spelled). part_before begun plain ++ (opening ∷ xs)) within in
    record {
      other = plain ++ (36 ∷ 123 ∷ text');
      again = at-plain form begun plain (36 ∷ 123 ∷ text') (some-quotes form q) size'
          ∙ either-second (begins (36 ∷ 123 ∷ text') form.quotes) _ _ other'
          ∙ ap (option_map (behind (part_before begun plain)))
          (either-second form.raw None _ escaping
          ∙ ap (option_and_then (λ (read : Read). option_map (behind (opening ∷ read.pieces)) (enough.parts form [] read.rest))) (e.again InterpolationOpening false)
          ∙ ap (option_map (behind (opening ∷ new))) p.again)
          ∙ ap (λ (ps : List Spelled). Some (record { pieces = ps; rest = rest })) (sym all);
      starts = starts-part begun plain ((opening ∷ inner.pieces) ++ later.pieces) begins-here;
      ended = ended-behind (part_before begun plain) (ended-behind (opening ∷ inner.pieces) p.ended);
      line = λ b t.
          let texts : list_all is_within_line text ≡ true = all-rest is_within_line (36 ∷ 123 ∷ []) text (all-rest is_within_line plain (36 ∷ 123 ∷ text) t) in
          let rests : list_all is_within_line inner.rest ≡ true = all-rest is_within_line (bytes_of inner.pieces) inner.rest (subst (λ (bs : List ℕ). list_all is_within_line bs ≡ true) (sym fair.cover) texts) in
          subst (λ (ps : List Spelled). list_all is_within_line (bytes_of ps) ≡ true) (sym all)
          (line-append (part_before begun plain) ((opening ∷ new) ++ laid later.pieces) (line-part begun plain b (all-front is_within_line plain (36 ∷ 123 ∷ text) t))
          (line-append (opening ∷ new) (laid later.pieces) (all-both is_within_line (codes "${") (bytes_of new) refl (e.line InterpolationOpening false refl texts)) (p.line refl rests)));
    }
