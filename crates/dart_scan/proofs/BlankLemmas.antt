-- A blank first line, unit by unit.
use Rattle.std.proofs.Common.{◌≡◌, ℕ, ◌+◌, ◌-◌, ◌==◌, ◌&&◌, ◌||◌, Bool, true, false, List, [], ◌∷◌, length, take, drop, Option, Some, None, option_map, if◌then◌else◌, refl, sym, ap, ◌∙◌, arith, length-drop}
use Rattle.std.proofs.lemmas.Bool.Decides.{nat_tests}
use Rattle.std.proofs.lemmas.List.{drop-drop, take_all}
use Rattle.dart_scan.specs.Values.{blank_line, is_space, is_newline, first_is}
use Rattle.dart_scan.specs.Escapes.{begins_blank, newline_size}

-- the slice from a place on
pub tail_slice : (at : ℕ) (units : List ℕ) → take (length units - at) (drop at units) ≡ drop at units
tail_slice at units = take_all (length units - at) (drop at units) (omega (arith, length-drop at units))

-- as long as the newline, if there is one
abbrev pub if_some_size : ℕ → Option ℕ
if_some_size size = if size == 0 then None else Some size

-- the tests of a first line, in the order of the definition
tests : (space feed return backslash feed_next : Bool) (more : Option ℕ) → (feed ≡ true → space ≡ false) → (return ≡ true → space ≡ false) → (backslash ≡ true → feed ≡ false) → (backslash ≡ true → return ≡ false)
    → (if space then more else (if feed then Some 1 else (if return then Some (if feed_next then 2 else 1) else (if backslash then more else None))))
    ≡ (if (space || backslash) then more else if_some_size (if feed then 1 else (if return then (if feed_next then 2 else 1) else 0)))
tests true feed return backslash feed_next more a b c d = refl
tests false true return true feed_next more a b c d = cc (c refl)
tests false true return false feed_next more a b c d = refl
tests false false true true feed_next more a b c d = cc (d refl)
tests false false true false true more a b c d = refl
tests false false true false false more a b c d = refl
tests false false false true feed_next more a b c d = refl
tests false false false false feed_next more a b c d = refl

and-first : (a b : Bool) → (a && b) ≡ true → a ≡ true
and-first true b h = refl
and-first false b h = h

blank_line-step : (unit : ℕ) (units : List ℕ) → blank_line (unit ∷ units) ≡
    (if begins_blank (unit ∷ units) then option_map (λ n. n + 1) (blank_line units) else if_some_size (newline_size (unit ∷ units)))
unfolding blank_line
blank_line-step unit units =
    tests (is_space unit) (unit == 10) (unit == 13) (unit == 92 && first_is (λ u. is_space u || is_newline u) units) (first_is (λ u. u == 10) units) (option_map (λ n. n + 1) (blank_line units))
    (λ h. grind (arith, nat_tests, h)) (λ h. grind (arith, nat_tests, h))
    (λ h. let e : (unit == 92) ≡ true = and-first _ _ h in grind (arith, nat_tests, e)) (λ h. let e : (unit == 92) ≡ true = and-first _ _ h in grind (arith, nat_tests, e))

pub blank_line-goes_on : (units : List ℕ) → begins_blank units ≡ true → blank_line units ≡ option_map (λ n. n + 1) (blank_line (drop 1 units))
blank_line-goes_on [] h = cc
blank_line-goes_on (unit ∷ units) h = blank_line-step unit units ∙ rw h refl

pub blank_line-ends : (units : List ℕ) → begins_blank units ≡ false → blank_line units ≡ if_some_size (newline_size units)
unfolding blank_line
blank_line-ends [] h = refl
blank_line-ends (unit ∷ units) h = blank_line-step unit units ∙ rw h refl

further : (a : ℕ) (o : Option ℕ) → option_map (λ n. a + n) (option_map (λ n. n + 1) o) ≡ option_map (λ n. (a + 1) + n) o
further a None = refl
further a (Some n) = ap Some (omega arith)

pub blank_line-turn : (units : List ℕ) (at : ℕ) → begins_blank (drop at units) ≡ true
    → blank_line units ≡ option_map (λ n. at + n) (blank_line (drop at units)) → blank_line units ≡ option_map (λ n. (at + 1) + n) (blank_line (drop (at + 1) units))
blank_line-turn units at goes_on so_far =
    so_far ∙ ap (option_map (λ n. at + n)) (blank_line-goes_on (drop at units) goes_on) ∙ further at (blank_line (drop 1 (drop at units)))
    ∙ ap (λ rest. option_map (λ n. (at + 1) + n) (blank_line rest)) (drop-drop 1 at units)

pub blank_line-none : (units : List ℕ) (at : ℕ) → begins_blank (drop at units) ≡ false → newline_size (drop at units) ≡ 0
    → blank_line units ≡ option_map (λ n. at + n) (blank_line (drop at units)) → None ≡ blank_line units
blank_line-none units at ends none so_far = sym (so_far ∙ ap (option_map (λ n. at + n)) (blank_line-ends (drop at units) ends ∙ ap if_some_size none))

pub blank_line-some : (units : List ℕ) (at size : ℕ) → begins_blank (drop at units) ≡ false → newline_size (drop at units) ≡ size → (size == 0) ≡ false
    → blank_line units ≡ option_map (λ n. at + n) (blank_line (drop at units)) → Some (at + size) ≡ blank_line units
blank_line-some units at size ends some positive so_far =
    let found : if_some_size size ≡ Some size = rw positive refl in
    sym (so_far ∙ ap (option_map (λ n. at + n)) (blank_line-ends (drop at units) ends ∙ ap if_some_size some ∙ found))
