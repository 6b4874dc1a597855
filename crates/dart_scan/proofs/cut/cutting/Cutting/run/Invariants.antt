use Rattle.std.proofs.Common.{◌≡◌}
use Rattle.dart_scan.specs.Cutting.{Sound, to_come, steps_left}
use Rattle.dart_scan.proofs.cut.cutting.Cutting.run.Given as goal

abbrev pub invariant-loop : goal.invariant-loop
invariant-loop l = record {
  text : l.self.text ≡ l.initial.self.text;
  sound : Sound l.self;
  same : to_come l.self ≡ to_come l.initial.self;
}

abbrev pub decreases-loop : goal.decreases-loop
decreases-loop l = steps_left l.self.within l.self
