-- The values of integer literals.
use Rattle.std.specs.Prelude.{ℕ, ◌+◌, ◌-◌, ◌*◌, ◌^◌, Bool, ◌||◌, List, drop, fold, codes, nat_eq, nat_le, nat_lt, if◌then◌else◌, Option, Some, None}
use Rattle.std.specs.List.{starts_with}

-- the value of a digit: `0` to `9`, `A` to `F` or `a` to `f`
abbrev pub digit_of : ℕ → ℕ
digit_of byte = if nat_le byte 57 then byte - 48 else (if nat_le byte 70 then byte - 55 else byte - 87)

-- the number that digits stand for in a base, behind digits that stand for so much
abbrev pub number_behind : ℕ → ℕ → List ℕ → ℕ
number_behind base before digits = fold (λ number digit. base * number + digit_of digit) before digits

-- a number where it is below the limit
abbrev pub below : ℕ → ℕ → Option ℕ
below limit number = if nat_lt number limit then Some number else None

-- the lexeme is a hexadecimal integer
abbrev pub is_hexadecimal : List ℕ → Bool
is_hexadecimal lexeme = starts_with nat_eq lexeme (codes "0x") || starts_with nat_eq lexeme (codes "0X")

-- The 64 bits of an integer literal, as a number: a decimal one is at most 2^63 - 1, and a hexadecimal one is read as two's complement. None where it is out of range.
unfoldable pub integer_of : List ℕ → Option ℕ
integer_of lexeme =
    if is_hexadecimal lexeme then below (2 ^ 64) (number_behind 16 0 (drop 2 lexeme)) else below (2 ^ 63) (number_behind 10 0 lexeme)
