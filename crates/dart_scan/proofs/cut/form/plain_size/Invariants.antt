use Rattle.std.proofs.Common.{◌≡◌, ◌+◌, ◌-◌, ◌≤◌, length, drop}
use Rattle.dart_scan.specs.Strings.{form_of, plain_size}
use Rattle.dart_scan.proofs.cut.form.plain_size.Given as goal

abbrev pub invariant-loop-at : goal.invariant-loop-at
invariant-loop-at l = record {
  within : l.at ≤ length l.text;
  reached : plain_size (form_of l.raw l.quotes) l.text ≡ l.at + plain_size (form_of l.raw l.quotes) (drop l.at l.text);
}

abbrev pub decreases-loop-at : goal.decreases-loop-at
decreases-loop-at l = length l.text - l.at
