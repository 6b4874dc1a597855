use Rattle.std.proofs.Common.{◌≡◌, ◌<◌, ◌^◌, take}
use Rattle.dart_scan.specs.Values.{hexadecimal_value}
use Rattle.dart_scan.proofs.escape.hexadecimal_value.Given as goal

abbrev pub invariant-loop-digit : goal.invariant-loop-digit
invariant-loop-digit l = record {
  value : l.number ≡ hexadecimal_value (take l.digit-index l.digits);
  small : l.number < 16 ^ l.digit-index;
}
