use Rattle.std.proofs.Common.{◌≡◌, drop}
use Rattle.std.specs.Prelude.{find}
use Rattle.std.specs.List.{list_all}
use Rattle.dart_types.specs.SubTest.{sub}
use Rattle.flow_model.proofs.writes.least.Given as goal

abbrev pub invariant-loop-t : goal.invariant-loop-t
invariant-loop-t l =
    find (λ t. list_all (sub l.rows.table t) l.types) l.types ≡ find (λ t. list_all (sub l.rows.table t) l.types) (drop l.t-index l.types)
