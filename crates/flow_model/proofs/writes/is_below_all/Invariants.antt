use Rattle.std.proofs.Common.{◌≡◌, take, true}
use Rattle.std.specs.List.{list_all}
use Rattle.dart_types.specs.SubTest.{sub}
use Rattle.flow_model.proofs.writes.is_below_all.Given as goal

abbrev pub invariant-loop-t : goal.invariant-loop-t
invariant-loop-t l = list_all (sub l.rows.table l.s) (take l.t-index l.types) ≡ true
