-- No double with which a text begins is longer than its size there.
use Rattle.std.proofs.Common.{◌≡◌, ℕ, ◌+◌, ◌≤◌, ◌==◌, ◌&&◌, ◌||◌, Bool, true, false, List, ◌∷◌, ◌++◌, length, drop, codes, if◌then◌else◌, refl, sym, ap, subst, ◌∙◌, arith, append_assoc, length-append, drop_at}
use Rattle.std.specs.Prelude.{take_while}
use Rattle.std.specs.List.{list_all}
use Rattle.std.proofs.lemmas.Bool.{or_cases, eqb-true, ne_eqb}
use Rattle.std.proofs.Math.Logic.{⊎_elim}
use Rattle.dart_scan.specs.Characters.{is_digit}
use Rattle.dart_scan.specs.Lexemes.{begins, run, before_digits, fraction_size, sign_size, exponent_size, double_size}
use Rattle.dart_scan.specs.LexemeClasses.{is_exponent_letter, is_sign, IsExponent, unsigned, signed}
use Rattle.dart_scan.specs.FormLemmas.{begins-split, front-past}

-- Runs of bytes of a class.

pub run-front : (p : ℕ → Bool) (bytes rest : List ℕ) → list_all p bytes ≡ true → length bytes ≤ run p (bytes ++ rest)
run-front p bytes rest h = omega (arith, ap length (front-past p bytes rest h), length-append bytes (take_while p rest))

run-until : (p : ℕ → Bool) (bytes rest : List ℕ) → list_all p bytes ≡ true → run p rest ≡ 0 → run p (bytes ++ rest) ≡ length bytes
run-until p bytes rest h none = omega (arith, ap length (front-past p bytes rest h), length-append bytes (take_while p rest), none)

-- digits behind so many bytes
ahead-least : (ahead digits n : ℕ) → 1 ≤ n → n ≤ digits → ahead + n ≤ (if digits == 0 then 0 else ahead + digits)
ahead-least ahead digits n some h = either (digits == 0) (ne_eqb digits 0 (λ none. omega (arith, none, some, h)))
  where
    either : (b : Bool) → b ≡ false → ahead + n ≤ (if b then 0 else ahead + digits)
    either true e = absurd (cc)
    either false e = omega (arith, h)

ahead-same : (ahead digits n : ℕ) → 1 ≤ n → digits ≡ n → (if digits == 0 then 0 else ahead + digits) ≡ ahead + n
ahead-same ahead digits n some h = either (digits == 0) (ne_eqb digits 0 (λ none. omega (arith, none, some, h)))
  where
    either : (b : Bool) → b ≡ false → (if b then 0 else ahead + digits) ≡ ahead + n
    either true e = absurd (cc)
    either false e = omega (arith, h)

-- Exponents.

by_letter : (P : ℕ → Type 0) (letter : ℕ) → is_exponent_letter letter ≡ true → P 101 → P 69 → P letter
by_letter P letter h lower upper = ⊎_elim
    (λ (is : (letter == 101) ≡ true). subst P (sym (eqb-true letter 101 is)) lower)
    (λ (is : (letter == 69) ≡ true). subst P (sym (eqb-true letter 69 is)) upper)
    (or_cases (letter == 101) (letter == 69) h)

by_sign : (P : ℕ → Type 0) (sign : ℕ) → is_sign sign ≡ true → P 43 → P 45 → P sign
by_sign P sign h plus minus = ⊎_elim
    (λ (is : (sign == 43) ≡ true). subst P (sym (eqb-true sign 43 is)) plus)
    (λ (is : (sign == 45) ≡ true). subst P (sym (eqb-true sign 45 is)) minus)
    (or_cases (sign == 43) (sign == 45) h)

-- a digit is no sign
no-sign : (first : ℕ) (text : List ℕ) → is_digit first ≡ true → sign_size (first ∷ text) ≡ 0
no-sign first text h = of (begins (first ∷ text) (codes "+")) (begins (first ∷ text) (codes "-")) refl refl
  where
    refused : (b : Bool) → b ≡ false → b ≡ true → ⊥
    refused true e h = absurd (cc)
    refused false e h = absurd (cc)

    not-this : (byte : ℕ) → first ∷ text ≡ byte ∷ drop 1 (first ∷ text) → first ≡ byte
    not-this byte e = cc

    of : (plus minus : Bool) → begins (first ∷ text) (codes "+") ≡ plus → begins (first ∷ text) (codes "-") ≡ minus → ◌≡◌ {A = ℕ} (if plus || minus then 1 else 0) 0
    of true minus p m = absurd (refused (is_digit 43) refl (subst (λ (b : ℕ). is_digit b ≡ true) (not-this 43 (begins-split (codes "+") (first ∷ text) p)) h))
    of false true p m = absurd (refused (is_digit 45) refl (subst (λ (b : ℕ). is_digit b ≡ true) (not-this 45 (begins-split (codes "-") (first ∷ text) m)) h))
    of false false p m = refl

first-digit : (first : ℕ) (digits : List ℕ) → list_all is_digit (first ∷ digits) ≡ true → is_digit first ≡ true
first-digit first digits h = of (is_digit first) (list_all is_digit digits) h
  where
    of : (b c : Bool) → (b && c) ≡ true → b ≡ true
    of true c h = refl
    of false c h = absurd (cc)

exponent-front : (bytes rest : List ℕ) → IsExponent bytes → length bytes ≤ exponent_size (bytes ++ rest)
exponent-front bytes rest (unsigned letter first digits is all) =
    let text : List ℕ = first ∷ (digits ++ rest) in
    let long : 1 + length (first ∷ digits) ≤ before_digits is_digit 1 (0 ∷ text) = ahead-least 1 (run is_digit text) (length (first ∷ digits)) (omega arith) (run-front is_digit (first ∷ digits) rest all) in
    let none : sign_size text ≡ 0 = no-sign first (digits ++ rest) (first-digit first digits all) in
    by_letter (λ l. length (l ∷ (first ∷ digits)) ≤ exponent_size (l ∷ text)) letter is
    (omega (arith, long, ap (λ (s : ℕ). before_digits is_digit (1 + s) (101 ∷ text)) none))
    (omega (arith, long, ap (λ (s : ℕ). before_digits is_digit (1 + s) (69 ∷ text)) none))
exponent-front bytes rest (signed letter sign first digits is either all) =
    let text : List ℕ = first ∷ (digits ++ rest) in
    let long : 2 + length (first ∷ digits) ≤ before_digits is_digit 2 (0 ∷ (0 ∷ text)) = ahead-least 2 (run is_digit text) (length (first ∷ digits)) (omega arith) (run-front is_digit (first ∷ digits) rest all) in
    by_letter (λ l. length (l ∷ (sign ∷ (first ∷ digits))) ≤ exponent_size (l ∷ (sign ∷ text))) letter is
    (by_sign (λ s. length (101 ∷ (s ∷ (first ∷ digits))) ≤ exponent_size (101 ∷ (s ∷ text))) sign either (omega (arith, long)) (omega (arith, long)))
    (by_sign (λ s. length (69 ∷ (s ∷ (first ∷ digits))) ≤ exponent_size (69 ∷ (s ∷ text))) sign either (omega (arith, long)) (omega (arith, long)))

-- an exponent has a byte at least, and begins with no digit and no `.`
abbrev Stops : List ℕ → Type 0
Stops text = (run is_digit text ≡ 0) × (fraction_size text ≡ 0)

exponent-stops : (bytes rest : List ℕ) → IsExponent bytes → Stops (bytes ++ rest)
exponent-stops bytes rest (unsigned letter first digits is all) =
    by_letter (λ l. Stops (l ∷ (first ∷ (digits ++ rest)))) letter is (refl, refl) (refl, refl)
exponent-stops bytes rest (signed letter sign first digits is either all) =
    by_letter (λ l. Stops (l ∷ (sign ∷ (first ∷ (digits ++ rest))))) letter is (refl, refl) (refl, refl)

exponent-some : (bytes : List ℕ) → IsExponent bytes → 1 ≤ length bytes
exponent-some bytes (unsigned letter first digits is all) = omega arith
exponent-some bytes (signed letter sign first digits is either all) = omega arith

-- Doubles.

-- how long a double of such parts is
abbrev pub whole_size : (whole fraction exponent : ℕ) → ℕ
whole_size whole fraction exponent = if fraction == 0 && (whole == 0 || exponent == 0) then 0 else whole + (fraction + exponent)

pub with-fraction : (whole fraction exponent : ℕ) → 1 ≤ fraction → whole_size whole fraction exponent ≡ whole + (fraction + exponent)
with-fraction whole fraction exponent some = of (fraction == 0) (whole == 0 || exponent == 0) (ne_eqb fraction 0 (λ none. omega (arith, none, some)))
  where
    of : (b c : Bool) → b ≡ false → (if b && c then 0 else whole + (fraction + exponent)) ≡ whole + (fraction + exponent)
    of true c e = absurd (cc)
    of false c e = refl

pub with-exponent : (whole fraction exponent : ℕ) → 1 ≤ whole → 1 ≤ exponent → whole_size whole fraction exponent ≡ whole + (fraction + exponent)
with-exponent whole fraction exponent some more =
    of (fraction == 0) (whole == 0) (exponent == 0) (ne_eqb whole 0 (λ none. omega (arith, none, some))) (ne_eqb exponent 0 (λ none. omega (arith, none, more)))
  where
    of : (b c d : Bool) → c ≡ false → d ≡ false → (if b && (c || d) then 0 else whole + (fraction + exponent)) ≡ whole + (fraction + exponent)
    of false c d e f = refl
    of true true d e f = absurd (cc)
    of true false true e f = absurd (cc)
    of true false false e f = refl

-- the size of a double, by how long its parts are and what stands behind them
by-parts : (text behind last : List ℕ) (whole fraction : ℕ) → run is_digit text ≡ whole → drop whole text ≡ behind → fraction_size behind ≡ fraction → drop (whole + fraction) text ≡ last
    → double_size text ≡ whole_size whole fraction (exponent_size last)
by-parts text behind last whole fraction w b f l =
    ap (λ (n : ℕ). whole_size n (fraction_size (drop n text)) (exponent_size (drop (n + fraction_size (drop n text)) text))) w
    ∙ ap (λ (rest : List ℕ). whole_size whole (fraction_size rest) (exponent_size (drop (whole + fraction_size rest) text))) b
    ∙ ap (λ (n : ℕ). whole_size whole n (exponent_size (drop (whole + n) text))) f
    ∙ ap (λ (rest : List ℕ). whole_size whole fraction (exponent_size rest)) l

-- what has this length is no longer than such a double
below : (have size whole behind more : ℕ) → have ≡ whole + behind → size ≡ whole + more → behind ≤ more → have ≤ size
below have size whole behind more h s b = omega (arith, h, s, b)

pub fraction-front : (whole : List ℕ) (first : ℕ) (digits rest : List ℕ) → list_all is_digit whole ≡ true → list_all is_digit (first ∷ digits) ≡ true
    → length (whole ++ (codes "." ++ (first ∷ digits))) ≤ double_size ((whole ++ (codes "." ++ (first ∷ digits))) ++ rest)
fraction-front whole first digits rest wholes all =
    let behind : List ℕ = 46 ∷ (first ∷ (digits ++ rest)) in
    let fraction : ℕ = fraction_size behind in
    let last : List ℕ = drop (length whole + fraction) (whole ++ behind) in
    let long : 1 + length (first ∷ digits) ≤ fraction =
    ahead-least 1 (run is_digit (first ∷ (digits ++ rest))) (length (first ∷ digits)) (omega arith) (run-front is_digit (first ∷ digits) rest all) in
    let parts : double_size (whole ++ behind) ≡ whole_size (length whole) fraction (exponent_size last) =
    by-parts (whole ++ behind) behind last (length whole) fraction (run-until is_digit whole behind wholes refl) (drop_at whole behind (length whole) refl) refl refl in
    below (length (whole ++ (46 ∷ (first ∷ digits)))) (double_size ((whole ++ (46 ∷ (first ∷ digits))) ++ rest)) (length whole) (length (46 ∷ (first ∷ digits))) (fraction + exponent_size last)
    (length-append whole (46 ∷ (first ∷ digits)))
    (ap (λ (text : List ℕ). double_size text) (append_assoc whole (46 ∷ (first ∷ digits)) rest) ∙ parts ∙ with-fraction (length whole) fraction (exponent_size last) (omega (arith, long)))
    (omega (arith, long))

pub fraction_exponent-front : (whole : List ℕ) (first : ℕ) (digits exponent rest : List ℕ) → list_all is_digit whole ≡ true → list_all is_digit (first ∷ digits) ≡ true → IsExponent exponent
    → length (whole ++ (codes "." ++ ((first ∷ digits) ++ exponent))) ≤ double_size ((whole ++ (codes "." ++ ((first ∷ digits) ++ exponent))) ++ rest)
fraction_exponent-front whole first digits exponent rest wholes all is =
    let last : List ℕ = exponent ++ rest in
    let behind : List ℕ = 46 ∷ ((first ∷ digits) ++ last) in
    let fraction : ℕ = 1 + length (first ∷ digits) in
    let size : fraction_size behind ≡ fraction =
    ahead-same 1 (run is_digit ((first ∷ digits) ++ last)) (length (first ∷ digits)) (omega arith) (run-until is_digit (first ∷ digits) last all (exponent-stops exponent rest is).0) in
    let beyond : drop (length whole + fraction) (whole ++ behind) ≡ last =
    ap (λ (text : List ℕ). drop (length whole + fraction) text) (sym (append_assoc whole (46 ∷ (first ∷ digits)) last))
    ∙ drop_at (whole ++ (46 ∷ (first ∷ digits))) last (length whole + fraction) (omega (arith, length-append whole (46 ∷ (first ∷ digits)))) in
    let parts : double_size (whole ++ behind) ≡ whole_size (length whole) fraction (exponent_size last) =
    by-parts (whole ++ behind) behind last (length whole) fraction (run-until is_digit whole behind wholes refl) (drop_at whole behind (length whole) refl) size beyond in
    let text : (whole ++ (46 ∷ ((first ∷ digits) ++ exponent))) ++ rest ≡ whole ++ behind =
    append_assoc whole (46 ∷ ((first ∷ digits) ++ exponent)) rest ∙ ap (λ (more : List ℕ). whole ++ (46 ∷ (first ∷ more))) (append_assoc digits exponent rest) in
    below (length (whole ++ (46 ∷ ((first ∷ digits) ++ exponent)))) (double_size ((whole ++ (46 ∷ ((first ∷ digits) ++ exponent))) ++ rest)) (length whole) (length (46 ∷ ((first ∷ digits) ++ exponent)))
    (fraction + exponent_size last)
    (length-append whole (46 ∷ ((first ∷ digits) ++ exponent)))
    (ap (λ (more : List ℕ). double_size more) text ∙ parts ∙ with-fraction (length whole) fraction (exponent_size last) (omega arith))
    (omega (arith, exponent-front exponent rest is, length-append digits exponent))

pub whole_exponent-front : (first : ℕ) (digits exponent rest : List ℕ) → list_all is_digit (first ∷ digits) ≡ true → IsExponent exponent
    → length ((first ∷ digits) ++ exponent) ≤ double_size (((first ∷ digits) ++ exponent) ++ rest)
whole_exponent-front first digits exponent rest all is =
    let last : List ℕ = exponent ++ rest in
    let whole : List ℕ = first ∷ digits in
    let stops : Stops last = exponent-stops exponent rest is in
    let parts : double_size (whole ++ last) ≡ whole_size (length whole) 0 (exponent_size last) =
    by-parts (whole ++ last) last last (length whole) 0 (run-until is_digit whole last all stops.0) (drop_at whole last (length whole) refl) stops.1 (drop_at whole last (length whole + 0) (omega arith)) in
    let long : length exponent ≤ exponent_size last = exponent-front exponent rest is in
    below (length (whole ++ exponent)) (double_size ((whole ++ exponent) ++ rest)) (length whole) (length exponent) (0 + exponent_size last)
    (length-append whole exponent)
    (ap (λ (more : List ℕ). double_size more) (append_assoc whole exponent rest) ∙ parts ∙ with-exponent (length whole) 0 (exponent_size last) (omega arith) (omega (arith, long, exponent-some exponent is)))
    (omega (arith, long))
