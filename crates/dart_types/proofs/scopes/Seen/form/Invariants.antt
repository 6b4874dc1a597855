use Rattle.std.proofs.Common.{◌≡◌, length}
use Rattle.dart_types.specs.Forms.{seen_type}
use Rattle.dart_types.proofs.scopes.Seen.form.Given as goal

-- the type is the same
abbrev pub invariant-loop-class : goal.invariant-loop-class
invariant-loop-class l = seen_type l.seen ≡ seen_type l.self

-- and is seen in a scope of fewer frames each time
abbrev pub decreases-loop-class : goal.decreases-loop-class
decreases-loop-class l = length l.seen.scope.now
