use Rattle.std.proofs.Common.{◌≡◌, take, false}
use Rattle.dart_types.specs.WellFormed.{is_among}
use Rattle.dart_types.proofs.type_checks.is_param.Given as goal

abbrev pub invariant-loop-param : goal.invariant-loop-param
invariant-loop-param l = is_among (take l.param-index l.params) l.var ≡ false
