-- How strings open, and how far they may reach.
use Rattle.std.proofs.Common.{◌≡◌, ℕ, ◌≤◌, ◌==◌, ◌&&◌, Bool, true, false, List, [], ◌∷◌, ◌++◌, length, drop, nat_eq, nat_lt, nat_le, if◌then◌else◌, Some, refl, sym, ap, subst, ◌∙◌, arith}
use Rattle.std.specs.Prelude.{take_while}
use Rattle.std.specs.List.{list_all}
use Rattle.std.proofs.lemmas.Bool.Decides.{nat_tests}
use Rattle.std.proofs.lemmas.Bool.{eqb-true}
use Rattle.std.proofs.lemmas.List.Sums.{take_while-cons}
use Rattle.dart_scan.specs.Characters.{is_within_line}
use Rattle.dart_scan.specs.Lexemes.{begins}
use Rattle.dart_scan.specs.Strings.{Form, opening_of, forms, first_form, string_form, within_reach}

-- what a text begins with stands before the rest of it
pub begins-split : (bytes text : List ℕ) → begins text bytes ≡ true → text ≡ bytes ++ drop (length bytes) text
begins-split [] text h = refl
begins-split (b ∷ bytes) [] h = absurd (cc)
begins-split (b ∷ bytes) (c ∷ text) h = both (nat_eq b c) (begins text bytes) refl refl h (begins-split bytes text)
  where
    both : (s t : Bool) → nat_eq b c ≡ s → begins text bytes ≡ t → (s && t) ≡ true → (begins text bytes ≡ true → text ≡ bytes ++ drop (length bytes) text) → c ∷ text ≡ b ∷ (bytes ++ drop (length bytes) text)
    both true true e f g rest = ap (λ x. x ∷ text) (sym (eqb-true b c e)) ∙ ap (λ xs. b ∷ xs) (rest f)
    both true false e f g rest = absurd (cc)
    both false t e f g rest = absurd (cc)

-- the bytes of a class at the front stand before the rest
pub front-split : (p : ℕ → Bool) (text : List ℕ) → take_while p text ++ drop (length (take_while p text)) text ≡ text
front-split p [] = refl
front-split p (b ∷ text) = rw (take_while-cons p b text) (chosen (front-split p text) (p b))
  where
    chosen : take_while p text ++ drop (length (take_while p text)) text ≡ text → (s : Bool) → (if s then b ∷ take_while p text else []) ++ drop (length (if s then b ∷ take_while p text else [])) (b ∷ text) ≡ b ∷ text
    chosen rest true = ap (λ xs. b ∷ xs) rest
    chosen rest false = refl

pub front-past : (p : ℕ → Bool) (bytes text : List ℕ) → list_all p bytes ≡ true → take_while p (bytes ++ text) ≡ bytes ++ take_while p text
front-past p [] text h = refl
front-past p (b ∷ bytes) text h = both (p b) (list_all p bytes) refl refl h (front-past p bytes text)
  where
    both : (s t : Bool) → p b ≡ s → list_all p bytes ≡ t → (s && t) ≡ true → (list_all p bytes ≡ true → take_while p (bytes ++ text) ≡ bytes ++ take_while p text)
        → take_while p (b ∷ (bytes ++ text)) ≡ b ∷ (bytes ++ take_while p text)
    both true true e f g rest = take_while-cons p b (bytes ++ text) ∙ rw e (ap (λ xs. b ∷ xs) (rest f))
    both true false e f g rest = absurd (cc)
    both false t e f g rest = absurd (cc)

-- a form has one quote at least and three at most, and opens within a line
abbrev pub is_fine : Form → Bool
is_fine form = nat_lt 0 (length form.quotes) && (nat_le (length form.quotes) 3 && list_all is_within_line (opening_of form))

-- a string of a form begins the text
pub record Opens (form : Form) (text : List ℕ) : Type 0 where
  pub some : 1 ≤ length form.quotes
  pub few : length form.quotes ≤ 3
  pub within : list_all is_within_line (opening_of form) ≡ true
  pub begun : begins text (opening_of form) ≡ true

fine : (form : Form) (text : List ℕ) → is_fine form ≡ true → begins text (opening_of form) ≡ true → Opens form text
fine form text e h = of (nat_lt 0 (length form.quotes)) (nat_le (length form.quotes) 3) (list_all is_within_line (opening_of form)) refl refl refl e
  where
    of : (a b c : Bool) → nat_lt 0 (length form.quotes) ≡ a → nat_le (length form.quotes) 3 ≡ b → list_all is_within_line (opening_of form) ≡ c → (a && (b && c)) ≡ true → Opens form text
    of true true true p q r e = record { some = grind (arith, nat_tests, p); few = grind (arith, nat_tests, q); within = r; begun = h }
    of true true false p q r e = absurd (cc)
    of true false c p q r e = absurd (cc)
    of false b c p q r e = absurd (cc)

-- the first form of a table of fine ones
first : (table : List Form) (text : List ℕ) (form : Form) → list_all is_fine table ≡ true → first_form table text ≡ Some form → Opens form text
first [] text form fines e = absurd (cc)
first (f ∷ more) text form fines e = both (is_fine f) (list_all is_fine more) (begins text (opening_of f)) refl refl refl fines e (first more text form)
  where
    both : (s t b : Bool) → is_fine f ≡ s → list_all is_fine more ≡ t → begins text (opening_of f) ≡ b → (s && t) ≡ true → (if b then Some f else first_form more text) ≡ Some form
        → (list_all is_fine more ≡ true → first_form more text ≡ Some form → Opens form text) → Opens form text
    both true true true p q r g h rest = let same : f ≡ form = cc in subst (λ x. Opens x text) same (fine f text p r)
    both true true false p q r g h rest = rest q h
    both true false b p q r g h rest = absurd (cc)
    both false t b p q r g h rest = absurd (cc)

pub opens : (text : List ℕ) (form : Form) → string_form text ≡ Some form → Opens form text
opens text form e = first forms text form refl e

-- how a text lies that begins with a string of the form
pub record Reaches (form : Form) (text : List ℕ) : Type 0 where
  pub opened : within_reach form text ≡ opening_of form ++ drop (length (opening_of form)) (within_reach form text)
  pub split : within_reach form text ++ drop (length (within_reach form text)) text ≡ text

drop-all-of : (text : List ℕ) → drop (length text) text ≡ []
drop-all-of [] = refl
drop-all-of (b ∷ text) = drop-all-of text

pub append-nothing : (text : List ℕ) → text ++ [] ≡ text
append-nothing [] = refl
append-nothing (b ∷ text) = ap (λ xs. b ∷ xs) (append-nothing text)

pub drop-front : (front text : List ℕ) → drop (length front) (front ++ text) ≡ text
drop-front [] text = refl
drop-front (b ∷ front) text = drop-front front text

pub reaches : (form : Form) (text : List ℕ) → Opens form text → Reaches form text
reaches form text o = let both = of (length form.quotes == 1) in record { opened = both.0; split = both.1 }
  where
    split : text ≡ opening_of form ++ drop (length (opening_of form)) text
    split = begins-split (opening_of form) text o.begun

    front : take_while is_within_line text ≡ opening_of form ++ take_while is_within_line (drop (length (opening_of form)) text)
    front = ap (take_while is_within_line) split ∙ front-past is_within_line (opening_of form) (drop (length (opening_of form)) text) o.within

    behind : drop (length (opening_of form)) (take_while is_within_line text) ≡ take_while is_within_line (drop (length (opening_of form)) text)
    behind = ap (drop (length (opening_of form))) front ∙ drop-front (opening_of form) _

    of : (b : Bool) → (opened : (if b then take_while is_within_line text else text) ≡ opening_of form ++ drop (length (opening_of form)) (if b then take_while is_within_line text else text))
        × ((if b then take_while is_within_line text else text) ++ drop (length (if b then take_while is_within_line text else text)) text ≡ text)
    of true = (front ∙ ap (λ xs. opening_of form ++ xs) (sym behind), front-split is_within_line text)
    of false = (split, ap (λ xs. text ++ xs) (drop-all-of text) ∙ append-nothing text)
