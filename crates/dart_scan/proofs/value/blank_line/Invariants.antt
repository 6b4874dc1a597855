use Rattle.std.proofs.Common.{◌≡◌, ◌+◌, ◌-◌, ◌≤◌, length, drop, option_map}
use Rattle.dart_scan.specs.Values.{blank_line}
use Rattle.dart_scan.proofs.value.blank_line.Given as goal

abbrev pub invariant-loop-at : goal.invariant-loop-at
invariant-loop-at l = record {
  within : l.at ≤ length l.units;
  reached : blank_line l.units ≡ option_map (λ n. l.at + n) (blank_line (drop l.at l.units));
}

abbrev pub decreases-loop-at : goal.decreases-loop-at
decreases-loop-at l = length l.units - l.at
