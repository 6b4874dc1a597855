-- Escapes, their faults and blank first lines, as the code finds them.
use Rattle.std.specs.Prelude.{ℕ, Bool, false, ◌==◌, ◌+◌, ◌&&◌, ◌||◌, List, [], ◌∷◌, option_map, if◌then◌else◌}
use Rattle.std.specs.Option.{option_map_or}
use Rattle.std.specs.Char.Escape.{encode_utf16}
use Rattle.dart_tokens.specs.declared.scanned.LexFault.{LexFault}
use Rattle.dart_tokens.specs.declared.scanned.LexFaultKind.TheVariants.{BadEscape}
use Rattle.dart_scan.specs.declared.escape.Escape.{Escape as Kept}
use Rattle.dart_scan.specs.Values.{Escape, Range, is_space, is_newline, first_is}

-- an escape that is kept by the code point, or the code unit, that it stands for
abbrev pub escape_of : Kept → Escape
escape_of kept = record { value = option_map encode_utf16 kept.code; size = kept.size }

-- the fault of a bad escape
abbrev pub fault_of : Range → LexFault
fault_of range = record { kind = BadEscape; start = range.start; end = range.end }

-- the fault of an escape whose backslash has this offset, if it is bad
abbrev pub faults_of_escape : (offset : ℕ) → Escape → List Range
faults_of_escape offset escape = option_map_or (λ value. []) escape.value (record { start = offset; end = offset + 1 + escape.size } ∷ [])

-- a first line goes on with a space or a tab, or with the backslash before one or before its newline
abbrev pub begins_blank : List ℕ → Bool
begins_blank [] = false
begins_blank (unit ∷ units) = is_space unit || (unit == 92 && first_is (λ u. is_space u || is_newline u) units)

-- how many units the newline has with which the units begin
abbrev pub newline_size : List ℕ → ℕ
newline_size [] = 0
newline_size (unit ∷ units) = if unit == 10 then 1 else (if unit == 13 then (if first_is (λ u. u == 10) units then 2 else 1) else 0)
