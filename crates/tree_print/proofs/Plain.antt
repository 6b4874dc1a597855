-- The plain bytes of a string go as far where the text goes on alike behind them.
use Rattle.std.proofs.Common.{◌≡◌, ℕ, suc, ◌+◌, ◌≤◌, ◌||◌, ◌&&◌, not, Bool, true, false, List, [], ◌∷◌, ◌++◌, length, take, drop, nat_eq, nat_lt, codes, if◌then◌else◌, Some, refl, sym, ap, subst, ◌∙◌, arith}
use Rattle.std.specs.List.{list_all}
use Rattle.std.proofs.lemmas.Bool.{and_parts}
use Rattle.std.proofs.lemmas.List.{take-append-le}
use Rattle.dart_scan.specs.Lexemes.{begins, run}
use Rattle.dart_scan.specs.Openings.{taken}
use Rattle.dart_scan.specs.Strings.{Form, opening_of, forms, first_form, string_form, is_name_start, is_name_part, name_size, is_interpolated, begins_name, begins_interpolation, ends_piece, begins_escape, plain_size}
use Rattle.dart_scan.specs.PlainLemmas.{plain-step}
use Rattle.tree_print.proofs.Alike.{Alike, same, is_solid, alike-behind, run-cons, run-none, unbegun-alike}

-- A run stops at a byte that is not of its class.
pub run-stops : (p : ℕ → Bool) (front : List ℕ) (y : ℕ) (ys : List ℕ) → p y ≡ false → run p (front ++ (y ∷ ys)) ≡ run p front
run-stops p [] y ys e = run-none p y ys e
run-stops p (b ∷ front) y ys e = run-cons p b (front ++ (y ∷ ys)) ∙ ap (λ (n : ℕ). if p b then suc n else 0) (run-stops p front y ys e) ∙ sym (run-cons p b front)

pub run-within : (p : ℕ → Bool) (text : List ℕ) → run p text ≤ length text
run-within p [] = omega arith
run-within p (b ∷ text) = of (p b) refl (run-within p text)
  where
    of : (s : Bool) → p b ≡ s → run p text ≤ length text → run p (b ∷ text) ≤ suc (length text)
    of s e h = let all : run p (b ∷ text) ≡ (if s then suc (run p text) else 0) = run-cons p b text ∙ ap (λ (s : Bool). if s then suc (run p text) else 0) e in at s all h
      where
        at : (s : Bool) → run p (b ∷ text) ≡ (if s then suc (run p text) else 0) → run p text ≤ length text → run p (b ∷ text) ≤ suc (length text)
        at true e h = omega (arith, e, h)
        at false e h = omega (arith, e)

pub name-stops : (plain : List ℕ) (y : ℕ) (ys : List ℕ) → is_name_start y ≡ false → is_name_part y ≡ false → name_size (plain ++ (y ∷ ys)) ≡ name_size plain
name-stops [] y ys start part = ap (λ (s : Bool). if s then 1 + run is_name_part ys else 0) start
name-stops (b ∷ plain) y ys start part = ap (λ (n : ℕ). if is_name_start b then 1 + n else 0) (run-stops is_name_part plain y ys part)

pub name-within : (text : List ℕ) → name_size text ≤ length text
name-within [] = omega arith
name-within (b ∷ text) = of (is_name_start b) (run-within is_name_part text)
  where
    of : (s : Bool) → run is_name_part text ≤ length text → (if s then 1 + run is_name_part text else 0) ≤ suc (length text)
    of true h = omega (arith, h)
    of false h = omega arith

-- the text begins with an interpolation by name, as it does up to a byte that is of no name
begins_name-stops : (b : ℕ) (plain : List ℕ) (y : ℕ) (ys : List ℕ) → is_name_start y ≡ false → is_name_part y ≡ false → begins_name (b ∷ (plain ++ (y ∷ ys))) ≡ begins_name (b ∷ plain)
begins_name-stops b plain y ys start part =
    ap (λ (k : ℕ). (nat_eq 36 b && true) && (nat_lt 0 k && is_interpolated (take k (plain ++ (y ∷ ys))))) (name-stops plain y ys start part)
    ∙ ap (λ (word : List ℕ). (nat_eq 36 b && true) && (nat_lt 0 (name_size plain) && is_interpolated word)) (take-append-le (name_size plain) plain (y ∷ ys) (name-within plain))

-- Where a piece of a string ends.

or-false : (a b : Bool) → (a || b) ≡ false → (a ≡ false) × (b ≡ false)
or-false true b e = absurd (cc)
or-false false b e = (refl, e)

and-none : (r x name x' name' : Bool) → (x ≡ false → x' ≡ false) → name' ≡ name → (r && (x || name)) ≡ false → (r && (x' || name')) ≡ false
and-none false x name x' name' f e h = refl
and-none true x name x' name' f e h = let parts = or-false x name h in ap (λ (s : Bool). s || name') (f parts.0) ∙ e ∙ parts.1

pub ends-again : (form : Form) (b : ℕ) (plain : List ℕ) (y : ℕ) (ys ys' : List ℕ) → list_all is_solid form.quotes ≡ true → is_name_start y ≡ false → is_name_part y ≡ false → Alike 0 ys ys'
    → ends_piece form (b ∷ (plain ++ (y ∷ ys))) ≡ false → ends_piece form (b ∷ (plain ++ (y ∷ ys'))) ≡ false
ends-again form b plain y ys ys' solid start part a e =
    let old : List ℕ = b ∷ (plain ++ (y ∷ ys)) in
    let new : List ℕ = b ∷ (plain ++ (y ∷ ys')) in
    let shared : Alike (length (b ∷ plain)) old new = alike-behind (b ∷ plain) (same y (omega arith) a) in
    let parts = or-false (begins old form.quotes) (not form.raw && begins_interpolation old) e in
    let names : begins_name new ≡ begins_name old = begins_name-stops b plain y ys' start part ∙ sym (begins_name-stops b plain y ys start part) in
    ap (λ (s : Bool). s || (not form.raw && begins_interpolation new)) (unbegun-alike form.quotes old new solid shared parts.0)
    ∙ and-none (not form.raw) (begins old (codes "${")) (begins_name old) (begins new (codes "${")) (begins_name new) (unbegun-alike (codes "${") old new refl shared) names parts.1

step-again : (s s' e : Bool) (a a' b b' size : ℕ) → (s ≡ false → s' ≡ false) → (2 + a ≡ suc size → 2 + a' ≡ suc size) → (1 + b ≡ suc size → 1 + b' ≡ suc size)
    → (if s then 0 else (if e then 2 + a else 1 + b)) ≡ suc size → (if s' then 0 else (if e then 2 + a' else 1 + b')) ≡ suc size
step-again true s' e a a' b b' size k f g h = absurd (omega (arith, h))
step-again false true e a a' b b' size k f g h = let wrong = k refl in absurd (cc)
step-again false false true a a' b b' size k f g h = f h
step-again false false false a a' b b' size k f g h = g h

-- Plain bytes end again, where the same byte stands behind them, at which they end.
pub plain-again : (form : Form) (y : ℕ) (ys ys' : List ℕ) → list_all is_solid form.quotes ≡ true → is_name_start y ≡ false → is_name_part y ≡ false → Alike 0 ys ys' → ends_piece form (y ∷ ys') ≡ true
    → (plain : List ℕ) → plain_size form (plain ++ (y ∷ ys)) ≡ length plain → plain_size form (plain ++ (y ∷ ys')) ≡ length plain
unfolding plain_size
plain-again form y ys ys' solid start part a here [] h =
    plain-step form (y ∷ ys') (omega arith) ∙ ap (λ (s : Bool). if s then 0 else taken form.raw (y ∷ ys') + plain_size form (drop (taken form.raw (y ∷ ys')) (y ∷ ys'))) here
plain-again form y ys ys' solid start part a here (b ∷ []) h =
    let none : plain_size form (y ∷ ys') ≡ 0 =
    plain-step form (y ∷ ys') (omega arith) ∙ ap (λ (s : Bool). if s then 0 else taken form.raw (y ∷ ys') + plain_size form (drop (taken form.raw (y ∷ ys')) (y ∷ ys'))) here in
    step-again (ends_piece form (b ∷ y ∷ ys)) (ends_piece form (b ∷ y ∷ ys')) (begins_escape form b) (plain_size form ys) (plain_size form ys') (plain_size form (y ∷ ys)) (plain_size form (y ∷ ys')) 0
    (ends-again form b [] y ys ys' solid start part a) (λ long. absurd (omega (arith, long))) (λ _. omega (arith, none)) h
plain-again form y ys ys' solid start part a here (b ∷ c ∷ plain) h =
    let two = plain-again form y ys ys' solid start part a here plain in
    let one = plain-again form y ys ys' solid start part a here (c ∷ plain) in
    step-again (ends_piece form (b ∷ c ∷ (plain ++ (y ∷ ys)))) (ends_piece form (b ∷ c ∷ (plain ++ (y ∷ ys')))) (begins_escape form b)
    (plain_size form (plain ++ (y ∷ ys))) (plain_size form (plain ++ (y ∷ ys'))) (plain_size form (c ∷ (plain ++ (y ∷ ys)))) (plain_size form (c ∷ (plain ++ (y ∷ ys')))) (suc (length plain))
    (ends-again form b (c ∷ plain) y ys ys' solid start part a) (λ e. omega (arith, two (omega (arith, e)))) (λ e. omega (arith, one (omega (arith, e)))) h

-- Forms of strings.

-- the first of these bytes is of no name
abbrev apart : List ℕ → Bool
apart [] = false
apart (b ∷ bytes) = not (is_name_start b) && not (is_name_part b)

abbrev quoted : Form → Bool
quoted form = apart form.quotes && (list_all is_solid form.quotes && list_all is_solid (opening_of form))

-- what the quotes of a form are
pub record Quoted (form : Form) : Type 0 where
  pub first : ℕ
  pub more : List ℕ
  pub is : form.quotes ≡ first ∷ more
  pub start : is_name_start first ≡ false
  pub part : is_name_part first ≡ false
  pub solid : list_all is_solid form.quotes ≡ true
  pub opening : list_all is_solid (opening_of form) ≡ true

not-true : (s : Bool) → not s ≡ true → s ≡ false
not-true true e = absurd (cc)
not-true false e = refl

of-quoted : (form : Form) → quoted form ≡ true → Quoted form
of-quoted form e =
    let parts = and_parts (apart form.quotes) (list_all is_solid form.quotes && list_all is_solid (opening_of form)) e in
    let solids = and_parts (list_all is_solid form.quotes) (list_all is_solid (opening_of form)) parts.1 in
    of form.quotes refl parts.0 solids
  where
    of : (quotes : List ℕ) → form.quotes ≡ quotes → apart quotes ≡ true → (list_all is_solid form.quotes ≡ true) × (list_all is_solid (opening_of form) ≡ true) → Quoted form
    of [] is e s = absurd (cc)
    of (b ∷ more) is e s =
        let parts = and_parts (not (is_name_start b)) (not (is_name_part b)) e in
        record { first = b; more = more; is = is; start = not-true (is_name_start b) parts.0; part = not-true (is_name_part b) parts.1; solid = s.0; opening = s.1 }

found : (table : List Form) (text : List ℕ) (form : Form) → list_all quoted table ≡ true → first_form table text ≡ Some form → quoted form ≡ true
found [] text form all e = absurd (cc)
found (f ∷ table) text form all e =
    let parts = and_parts (quoted f) (list_all quoted table) all in
    of (begins text (opening_of f)) parts.0 e (found table text form parts.1)
  where
    of : (s : Bool) → quoted f ≡ true → (if s then Some f else first_form table text) ≡ Some form → (first_form table text ≡ Some form → quoted form ≡ true) → quoted form ≡ true
    of true q e later = let is : f ≡ form = cc in subst (λ (x : Form). quoted x ≡ true) is q
    of false q e later = later e

pub quoted-of : (text : List ℕ) (form : Form) → string_form text ≡ Some form → Quoted form
quoted-of text form e = of-quoted form (found forms text form refl e)
