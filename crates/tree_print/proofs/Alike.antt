-- Two texts that go on alike, as far as a lexeme may reach.
use Rattle.std.proofs.Common.{◌≡◌, ℕ, zero, suc, ◌+◌, ◌≤◌, ◌==◌, ◌||◌, not, Bool, true, false, List, [], ◌∷◌, ◌++◌, length, drop, nat_eq, if◌then◌else◌, refl, sym, ap, ◌∙◌, arith}
use Rattle.std.specs.Prelude.{take_while}
use Rattle.std.specs.List.{list_all}
use Rattle.std.proofs.lemmas.Bool.{or_cases, and_from, and_parts, eqb-true}
use Rattle.std.proofs.lemmas.List.Sums.{take_while-cons}
use Rattle.std.proofs.Math.Logic.{⊎_elim}
use Rattle.dart_scan.specs.Characters.{is_blank}
use Rattle.dart_scan.specs.Lexemes.{begins, run}

-- A text and another of the same first bytes, so many at least, and as many more as there are: there the other ends, or white space stands in it.
pub data Alike : (shared : ℕ) → (text other : List ℕ) → Type 0 where
  ends : {text : List ℕ} → Alike 0 text []
  blank : {text : List ℕ} (byte : ℕ) (other : List ℕ) → is_blank byte ≡ true → Alike 0 text (byte ∷ other)
  same : {m n : ℕ} (byte : ℕ) {text other : List ℕ} → m ≤ suc n → Alike n text other → Alike m (byte ∷ text) (byte ∷ other)

-- the byte is no white space
abbrev pub is_solid : ℕ → Bool
is_solid byte = not (is_blank byte)

-- a class without white space
abbrev pub NoBlank : (ℕ → Bool) → Type 0
NoBlank p = (byte : ℕ) → is_blank byte ≡ true → p byte ≡ false

pub no-blank : (p : ℕ → Bool) → p 32 ≡ false → p 9 ≡ false → p 10 ≡ false → p 13 ≡ false → NoBlank p
no-blank p space tab feed return byte h = ⊎_elim
    (λ (a : (byte == 32 || byte == 9) ≡ true). ⊎_elim (λ (e : (byte == 32) ≡ true). at 32 (eqb-true byte 32 e) space) (λ (e : (byte == 9) ≡ true). at 9 (eqb-true byte 9 e) tab) (or_cases (byte == 32) (byte == 9) a))
    (λ (a : (byte == 10 || byte == 13) ≡ true). ⊎_elim (λ (e : (byte == 10) ≡ true). at 10 (eqb-true byte 10 e) feed) (λ (e : (byte == 13) ≡ true). at 13 (eqb-true byte 13 e) return) (or_cases (byte == 10) (byte == 13) a))
    (or_cases (byte == 32 || byte == 9) (byte == 10 || byte == 13) h)
  where
    at : (code : ℕ) → byte ≡ code → p code ≡ false → p byte ≡ false
    at code e h = ap p e ∙ h

-- texts behind the same bytes
pub alike-behind : (front : List ℕ) {text other : List ℕ} → Alike 0 text other → Alike (length front) (front ++ text) (front ++ other)
alike-behind [] a = a
alike-behind (b ∷ front) a = same b (omega arith) (alike-behind front a)

-- fewer bytes are shared too
pub alike-less : (m : ℕ) {n : ℕ} {text other : List ℕ} → m ≤ n → Alike n text other → Alike m text other
alike-less zero h ends = ends
alike-less (suc m) h ends = absurd (omega (arith, h))
alike-less zero h (blank byte other e) = blank byte other e
alike-less (suc m) h (blank byte other e) = absurd (omega (arith, h))
alike-less m h (same byte less a) = same byte (omega (arith, h, less)) a

-- Runs of a class.

pub run-cons : (p : ℕ → Bool) (b : ℕ) (text : List ℕ) → run p (b ∷ text) ≡ (if p b then suc (run p text) else 0)
run-cons p b text = ap length (take_while-cons p b text) ∙ of (p b)
  where
    of : (s : Bool) → length (if s then b ∷ take_while p text else []) ≡ (if s then suc (run p text) else 0)
    of true = refl
    of false = refl

pub run-none : (p : ℕ → Bool) (b : ℕ) (text : List ℕ) → p b ≡ false → run p (b ∷ text) ≡ 0
run-none p b text e = run-cons p b text ∙ ap (λ (s : Bool). if s then suc (run p text) else 0) e

pub run-some : (p : ℕ → Bool) (b : ℕ) (text : List ℕ) → p b ≡ true → run p (b ∷ text) ≡ suc (run p text)
run-some p b text e = run-cons p b text ∙ ap (λ (s : Bool). if s then suc (run p text) else 0) e

pub run-alike : (p : ℕ → Bool) → NoBlank p → {n : ℕ} (text other : List ℕ) → Alike n text other → run p text ≤ n → run p other ≡ run p text
run-alike p none text other ends h = omega (arith, h)
run-alike p none text other (blank byte more e) h = let no : run p (byte ∷ more) ≡ 0 = run-none p byte more (none byte e) in omega (arith, h, no)
run-alike p none text other (same {n = n} byte {text = tail} {other = rest} less a) h = of (p byte) refl (run-alike p none tail rest a)
  where
    of : (s : Bool) → p byte ≡ s → (run p tail ≤ n → run p rest ≡ run p tail) → run p (byte ∷ rest) ≡ run p (byte ∷ tail)
    of true e later =
        let long : run p (byte ∷ tail) ≡ suc (run p tail) = run-some p byte tail e in
        run-some p byte rest e ∙ ap suc (later (omega (arith, h, less, long))) ∙ sym long
    of false e later = run-none p byte rest e ∙ sym (run-none p byte tail e)

-- Words without white space that stand first.

pub begun-alike : (word : List ℕ) {n : ℕ} (text other : List ℕ) → list_all is_solid word ≡ true → Alike n text other → begins other word ≡ true
    → (begins text word ≡ true) × (m : ℕ) × (n ≤ m + length word) × Alike m (drop (length word) text) (drop (length word) other)
begun-alike [] {n = n} text other solid a e = (refl, n, omega arith, a)
begun-alike (w ∷ word) text other solid ends e = absurd (cc)
begun-alike (w ∷ word) text other solid (blank byte more b) e =
    let is : w ≡ byte = eqb-true w byte (and_parts (nat_eq w byte) (begins more word) e).0 in
    let here : not (is_blank w) ≡ true = (and_parts (is_solid w) (list_all is_solid word) solid).0 in
    let none : not (is_blank byte) ≡ false = ap not b in
    let both : true ≡ false = sym here ∙ ap is_solid is ∙ none in
    absurd (cc)
begun-alike (w ∷ word) text other solid (same byte {text = tail} {other = rest} less a) e =
    let parts = and_parts (nat_eq w byte) (begins rest word) e in
    let later = begun-alike word tail rest (and_parts (is_solid w) (list_all is_solid word) solid).1 a parts.1 in
    (and_from (nat_eq w byte) (begins tail word) parts.0 later.0, later.1, omega (arith, less, later.2), later.3)

pub shared-begins : (word : List ℕ) {n : ℕ} (text other : List ℕ) → Alike n text other → length word ≤ n → begins text word ≡ true → begins other word ≡ true
shared-begins [] text other a h e = refl
shared-begins (w ∷ word) text other ends h e = absurd (omega (arith, h))
shared-begins (w ∷ word) text other (blank byte more b) h e = absurd (omega (arith, h))
shared-begins (w ∷ word) text other (same byte {text = tail} {other = rest} less a) h e =
    let parts = and_parts (nat_eq w byte) (begins tail word) e in
    and_from (nat_eq w byte) (begins rest word) parts.0 (shared-begins word tail rest a (omega (arith, h, less)) parts.1)

-- where the one doesn't begin with a word, the other doesn't
pub unbegun-alike : (word : List ℕ) {n : ℕ} (text other : List ℕ) → list_all is_solid word ≡ true → Alike n text other → begins text word ≡ false → begins other word ≡ false
unbegun-alike word text other solid a e = of (begins other word) refl
  where
    of : (s : Bool) → begins other word ≡ s → s ≡ false
    of false f = refl
    of true f = let g = (begun-alike word text other solid a f).0 in absurd (cc)
