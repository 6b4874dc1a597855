use Rattle.std.proofs.Common.{◌≡◌, drop}
use Rattle.dart_types.specs.Ty.{types_of}
use Rattle.dart_types.specs.Substitution.{argument_of}
use Rattle.dart_types.proofs.scopes.argument_for.Given as goal

-- what is left of both lists decides
abbrev pub invariant-loop-i : goal.invariant-loop-i
invariant-loop-i l = argument_of (drop l.i l.params) (types_of (drop l.i l.args)) l.var ≡ argument_of l.params (types_of l.args) l.var
