-- UTF-16 code units of a text that is kept in UTF-8.
use Rattle.std.specs.Prelude.{ℕ, List, sum_by, nat_lt, if◌then◌else◌}

-- The code units of the character that begins with this byte: none for a byte that continues a character, two for a character of four bytes.
abbrev pub units_of_byte : ℕ → ℕ
units_of_byte byte = if nat_lt byte 128 then 1 else (if nat_lt byte 192 then 0 else (if nat_lt byte 240 then 1 else 2))

-- the UTF-16 length of a text
abbrev pub units_in : List ℕ → ℕ
units_in bytes = sum_by units_of_byte bytes
