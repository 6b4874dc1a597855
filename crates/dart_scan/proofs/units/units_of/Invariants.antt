use Rattle.std.proofs.Common.{◌≡◌, ◌*◌, ◌≤◌, ◌++◌, length, drop}
use Rattle.dart_text.specs.Units.{units_of}
use Rattle.dart_scan.specs.Decoding.{most_bits}
use Rattle.dart_scan.proofs.UnitLemmas.{units_pending}
use Rattle.dart_scan.proofs.units.units_of.Given as goal

abbrev pub invariant-loop-byte : goal.invariant-loop-byte
invariant-loop-byte l = record {
  more : l.begun.more ≤ 3;
  bits : l.begun.code ≤ most_bits l.begun.more;
  few : length l.units.items ≤ 2 * l.byte-index;
  units : units_of l.bytes ≡ l.units.items ++ units_pending l.begun (drop l.byte-index l.bytes);
}
