-- The number that digits stand for is no less than what stands before them.
use Rattle.std.proofs.Common.{◌≡◌, ℕ, ◌+◌, ◌*◌, ◌^◌, ◌<◌, ◌≤◌, Bool, true, false, List, [], ◌∷◌, nat_lt, Some, None, if◌then◌else◌, get_or, drop, length, suc, refl, sym, ap, ◌∙◌, arith, drop-cons}
use Rattle.std.proofs.lemmas.List.{drop_all}
use Rattle.std.proofs.lemmas.Bool.Decides.{nat_tests}
use Rattle.judgement.specs.Literals.{below, digit_of, number_behind}

once_more : (base before digit : ℕ) → 1 ≤ base → before ≤ base * before + digit
once_more base before digit h = grind arith

pub number_grows : (base before : ℕ) (digits : List ℕ) → 1 ≤ base → before ≤ number_behind base before digits
number_grows base before [] h = omega arith
number_grows base before (digit ∷ digits) h =
    omega (arith, once_more base before (digit_of digit) h, number_grows base (base * before + digit_of digit) digits h)

is_within : (number : ℕ) → number < 2 ^ 64 → below (2 ^ 64) number ≡ Some number
is_within number h = grind (arith, nat_tests)

is_past : (number : ℕ) → 2 ^ 64 ≤ number → below (2 ^ 64) number ≡ None
is_past number h = grind (arith, nat_tests)

past_of : (number : ℕ) (b : Bool) → nat_lt number (2 ^ 64) ≡ b → (if b then Some number else None) ≡ None → 2 ^ 64 ≤ number
past_of number true is e = absurd (cc)
past_of number false is e = grind (arith, nat_tests, is)

-- a digit that leads past 64 bits
pub past_64_bits : (base before i : ℕ) (whole : List ℕ) → 1 ≤ base → i < length whole → None ≡ below (2 ^ 64) (base * before + digit_of (get_or whole i 0))
    → number_behind base 0 whole ≡ number_behind base before (drop i whole) → None ≡ below (2 ^ 64) (number_behind base 0 whole)
past_64_bits base before i whole h within past so_far =
    let digit = get_or whole i 0 in
    let much : 2 ^ 64 ≤ base * before + digit_of digit = past_of _ _ refl (sym past) in
    let grown = number_grows base (base * before + digit_of digit) (drop (suc i) whole) h in
    let here : number_behind base 0 whole ≡ number_behind base (base * before + digit_of digit) (drop (suc i) whole) = so_far ∙ ap (number_behind base before) (drop-cons whole i 0 within) in
    sym (is_past _ (omega (arith, much, grown, here)))

-- the last digit is read
pub all_digits : (base number i : ℕ) (whole : List ℕ) → length whole ≤ i → number < 2 ^ 64 → number_behind base 0 whole ≡ number_behind base number (drop i whole) → Some number ≡ below (2 ^ 64) (number_behind base 0 whole)
all_digits base number i whole end fits so_far =
    let none : drop i whole ≡ [] = drop_all i whole end in
    sym (ap (below (2 ^ 64)) (so_far ∙ ap (number_behind base number) none) ∙ is_within number fits)
