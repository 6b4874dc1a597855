-- Classes of bytes of a text in UTF-8.
use Rattle.std.specs.Prelude.{ℕ, Bool, ◌&&◌, ◌||◌, ◌==◌, not, nat_le}

-- `0` to `9`
abbrev pub is_digit : ℕ → Bool
is_digit byte = nat_le 48 byte && nat_le byte 57

-- `a` to `f` and `A` to `F` too
abbrev pub is_hexadecimal_digit : ℕ → Bool
is_hexadecimal_digit byte = is_digit byte || ((nat_le 65 byte && nat_le byte 70) || (nat_le 97 byte && nat_le byte 102))

-- an ASCII letter, `_` or `$`
abbrev pub is_identifier_start : ℕ → Bool
is_identifier_start byte = (nat_le 65 byte && nat_le byte 90) || ((nat_le 97 byte && nat_le byte 122) || (byte == 95 || byte == 36))

-- such a character or a digit
abbrev pub is_identifier_part : ℕ → Bool
is_identifier_part byte = is_identifier_start byte || is_digit byte

-- space, tab, line feed and carriage return
abbrev pub is_blank : ℕ → Bool
is_blank byte = (byte == 32 || byte == 9) || (byte == 10 || byte == 13)

-- whatever may stand in a comment of one line
abbrev pub is_within_line : ℕ → Bool
is_within_line byte = not (byte == 10 || byte == 13)

-- a byte of a character beyond ASCII
abbrev pub is_beyond_ascii : ℕ → Bool
is_beyond_ascii byte = nat_le 128 byte
