use Rattle.std.proofs.Common.{◌≡◌, ◌*◌, ◌≤◌, take}
use Rattle.plain_text.specs.Units.{units_in}
use Rattle.plain_text.proofs.units.utf16_len.Given as goal

abbrev pub invariant-loop-byte : goal.invariant-loop-byte
invariant-loop-byte l = (l.count ≡ units_in (take l.byte-index l.bytes)) × (l.count ≤ 2 * l.byte-index)
