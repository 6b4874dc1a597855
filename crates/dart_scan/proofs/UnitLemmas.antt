-- One byte more of a text in its code units.
use Rattle.std.proofs.Common.{◌≡◌, ℕ, zero, suc, ◌+◌, ◌-◌, ◌*◌, ◌<◌, ◌==◌, false, List, [], ◌∷◌, ◌++◌, length, drop, get_or, refl, sym, ap, ◌∙◌, append_assoc, append-nil, nat_lt, arith}
use Rattle.std.specs.Str.{IsAscii, chars, chars_after, continuation_len, lead_bits}
use Rattle.std.specs.List.{flat_map}
use Rattle.std.specs.Char.Escape.{encode_utf16}
use Rattle.std.proofs.lemmas.Bool.{cond-true, lt-ltb}
use Rattle.std.proofs.lemmas.Grind.{flat_map-append}
use Rattle.std.proofs.lemmas.List.{drop_more}
use Rattle.std.proofs.lemmas.List.Sums.{sum_by-cons}
use Rattle.std.proofs.Math.Dec.{eqb-suc-zero}
use Rattle.dart_scan.specs.declared.units.Begun.{Begun}
use Rattle.plain_text.specs.Units.{units_of_byte, units_in}
use Rattle.dart_scan.specs.Decoding.{begun_after, ended}

-- the characters of the rest, where so many bytes are to come of the first one
abbrev pub pending : (more code : ℕ) → List ℕ → List ℕ
pending zero code bytes = chars bytes
pending (suc more) code bytes = chars_after (suc more) code bytes

at_once : (more code : ℕ) (bytes : List ℕ) → chars_after more code bytes ≡ ended (record { code = code; more = more }) ++ pending more code bytes
unfolding chars
at_once zero code [] = refl
at_once zero code (byte ∷ bytes) = refl
at_once (suc more) code bytes = let some : (suc more == 0) ≡ false = eqb-suc-zero more in rw some refl

pending-step : (more code byte : ℕ) (bytes : List ℕ) → pending more code (byte ∷ bytes) ≡
    (let after = begun_after (record { code = code; more = more }) byte in ended after ++ pending after.more after.code bytes)
unfolding chars
pending-step zero code byte bytes = at_once (continuation_len byte) (lead_bits byte) bytes
pending-step (suc more) code byte bytes =
    let some : (suc more == 0) ≡ false = eqb-suc-zero more in
    let fewer : suc more - 1 ≡ more = omega arith in
    rw (some, fewer) (at_once more (code * 64 + (byte - 128)) bytes)

-- the code units of those characters
abbrev pub units_pending : Begun → List ℕ → List ℕ
units_pending begun bytes = flat_map encode_utf16 (pending begun.more begun.code bytes)

pub units-turn : (whole done done' bytes : List ℕ) (at : ℕ) (begun begun' : Begun) → at < length bytes → begun' ≡ begun_after begun (get_or bytes at 0) → done' ≡ done ++ flat_map encode_utf16 (ended begun')
    → whole ≡ done ++ units_pending begun (drop at bytes) → whole ≡ done' ++ units_pending begun' (drop (at + 1) bytes)
units-turn whole done done' bytes at begun begun' within after d e =
    let byte = get_or bytes at 0 in
    let now = flat_map encode_utf16 (ended begun') in
    let more = units_pending begun' (drop (at + 1) bytes) in
    e ∙ ap (λ rest. done ++ units_pending begun rest) (drop_more bytes at 0 within)
    ∙ ap (λ cs. done ++ flat_map encode_utf16 cs) (pending-step begun.more begun.code byte (drop (at + 1) bytes) ∙ ap (λ b. ended b ++ pending b.more b.code (drop (at + 1) bytes)) (sym after))
    ∙ ap (λ units. done ++ units) (flat_map-append encode_utf16 (ended begun') (pending begun'.more begun'.code (drop (at + 1) bytes)))
    ∙ sym (append_assoc done now more)
    ∙ ap (λ units. units ++ more) (sym d)

none_pending : (more code : ℕ) → flat_map encode_utf16 (pending more code []) ≡ []
unfolding chars
none_pending zero code = refl
none_pending (suc more) code = refl

pub units-end : (whole done rest : List ℕ) (begun : Begun) → rest ≡ [] → whole ≡ done ++ units_pending begun rest → done ≡ whole
units-end whole done rest begun none e = sym (e ∙ ap (λ r. done ++ units_pending begun r) none ∙ ap (λ r. done ++ r) (none_pending begun.more begun.code) ∙ append-nil done)

-- a text in ASCII has a code unit for each byte
pub ascii_units : (bytes : List ℕ) → IsAscii bytes → units_in bytes ≡ length bytes
ascii_units [] is = refl
ascii_units (byte ∷ bytes) is =
    let small : units_of_byte byte ≡ 1 = cond-true (nat_lt byte 128) _ _ (lt-ltb byte 128 (is 0)) in
    let more : units_in bytes ≡ length bytes = ascii_units bytes (λ i. is (suc i)) in
    omega (arith, sum_by-cons units_of_byte byte bytes, small, more)
