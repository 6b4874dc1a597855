use Rattle.std.proofs.Common.{◌≡◌, take, map, ◌∷◌, ◌++◌}
use Rattle.std.specs.Prelude.{filter}
use Rattle.type_bounds.specs.NonNull.{non_null_of}
use Rattle.flow_model.specs.TypeTests.{is_formed}
use Rattle.flow_model.proofs.locals.Facts.interest.Given as goal

abbrev pub invariant-loop-tested : goal.invariant-loop-tested
invariant-loop-tested l = l.types ≡ l.self.ty ∷ take l.tested-index l.tested-items

abbrev pub invariant-loop-t : goal.invariant-loop-t
invariant-loop-t l =
    l.types ≡ (l.self.ty ∷ l.self.tested) ++ filter is_formed (map (non_null_of l.rows.table) (l.self.ty ∷ take l.t-index l.t-items))
