-- Characters of which some bytes have been read.
use Rattle.std.specs.Prelude.{ℕ, ◌+◌, ◌-◌, ◌*◌, ◌==◌, List, [], ◌∷◌, if◌then◌else◌}
use Rattle.std.specs.Str.{continuation_len, lead_bits}
use Rattle.dart_scan.specs.declared.units.Begun.{Begun}

-- the most that the bits read so far may be, where so many bytes are to come; UTF-8 has less
abbrev pub most_bits : (more : ℕ) → ℕ
most_bits more = if more == 0 then 4460607 else (if more == 1 then 69695 else (if more == 2 then 1087 else 15))

-- a character after one byte more, which is its own first one where none was to come
abbrev pub begun_after : Begun → (byte : ℕ) → Begun
begun_after begun byte =
    if begun.more == 0 then record { code = lead_bits byte; more = continuation_len byte }
    else record { code = begun.code * 64 + (byte - 128); more = begun.more - 1 }

-- the character, if no byte of it is to come
abbrev pub ended : Begun → List ℕ
ended begun = if begun.more == 0 then begun.code ∷ [] else []
