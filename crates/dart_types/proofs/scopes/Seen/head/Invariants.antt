use Rattle.std.proofs.Common.{◌≡◌, ◌≤◌}
use Rattle.dart_types.specs.Ty.{height_of}
use Rattle.dart_types.specs.Forms.{form_of, seen_type}
use Rattle.dart_types.specs.Targets.{or_nullable}
use Rattle.dart_types.specs.Normal.{normal}
use Rattle.dart_types.proofs.scopes.Seen.head.Given as goal

-- the form with the mark has the same normal form, and gets lower each time
abbrev pub invariant-loop-form : goal.invariant-loop-form
invariant-loop-form l = record {
  same : normal (or_nullable l.marked (form_of l.form)) ≡ normal (seen_type l.self);
  height : height_of (form_of l.form) ≤ height_of (seen_type l.self);
}

abbrev pub decreases-loop-form : goal.decreases-loop-form
decreases-loop-form l = height_of (form_of l.form)
