use Rattle.std.proofs.Common.{◌≡◌, take, filter}
use Rattle.dart_types.specs.SubTest.{sub}
use Rattle.flow_model.proofs.writes.supertypes.Given as goal

abbrev pub invariant-loop-t : goal.invariant-loop-t
invariant-loop-t l = l.kept ≡ filter (sub l.rows.table l.s) (take l.t-index l.types)
