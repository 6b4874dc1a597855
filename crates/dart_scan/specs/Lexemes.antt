-- How long the lexemes are with which a text begins, strings aside.
use Rattle.std.specs.Prelude.{ℕ, ◌+◌, ◌==◌, Bool, ◌&&◌, ◌||◌, List, [], ◌∷◌, length, drop, take_while, max, codes, nat_eq, if◌then◌else◌}
use Rattle.std.specs.List.{starts_with}
use Rattle.std.specs.Option.{option_map_or}
use Rattle.dart_scan.specs.Characters.{is_digit, is_hexadecimal_digit, is_identifier_start, is_identifier_part}
use Rattle.dart_tokens.specs.Marks.{first_mark}

-- the text begins with these bytes
abbrev pub begins : List ℕ → List ℕ → Bool
begins text bytes = starts_with nat_eq text bytes

-- how many bytes of a class stand at the front
abbrev pub run : (ℕ → Bool) → List ℕ → ℕ
run class text = length (take_while class text)

-- so many bytes, and at least one digit behind them
abbrev pub before_digits : (ℕ → Bool) → ℕ → List ℕ → ℕ
before_digits class ahead text = let digits = run class (drop ahead text) in if digits == 0 then 0 else ahead + digits

-- A word: a start of an identifier, and the parts that follow.
abbrev pub word_size : List ℕ → ℕ
word_size [] = 0
word_size (byte ∷ text) = if is_identifier_start byte then 1 + run is_identifier_part text else 0

-- `0x` or `0X`, and hexadecimal digits
abbrev pub hexadecimal_size : List ℕ → ℕ
hexadecimal_size text = if begins text (codes "0x") || begins text (codes "0X") then before_digits is_hexadecimal_digit 2 text else 0

-- An integer: decimal or hexadecimal digits.
abbrev pub integer_size : List ℕ → ℕ
integer_size text = max (run is_digit text) (hexadecimal_size text)

-- `.` and digits
abbrev pub fraction_size : List ℕ → ℕ
fraction_size text = if begins text (codes ".") then before_digits is_digit 1 text else 0

-- `+` or `-`, or nothing
abbrev pub sign_size : List ℕ → ℕ
sign_size text = if begins text (codes "+") || begins text (codes "-") then 1 else 0

-- `e` or `E`, a sign or none, and digits
abbrev pub exponent_size : List ℕ → ℕ
exponent_size text = if begins text (codes "e") || begins text (codes "E") then before_digits is_digit (1 + sign_size (drop 1 text)) text else 0

-- A double: digits or none, a fraction, and an exponent or none; or digits and an exponent.
abbrev pub double_size : List ℕ → ℕ
double_size text =
    let whole = run is_digit text in
    let fraction = fraction_size (drop whole text) in
    let exponent = exponent_size (drop (whole + fraction) text) in
    if fraction == 0 && (whole == 0 || exponent == 0) then 0 else whole + (fraction + exponent)

-- A mark of punctuation.
abbrev pub mark_size : List ℕ → ℕ
mark_size text = option_map_or (λ found. found.1) (first_mark text) 0
