-- Where two paths meet: what is known on both.
use Rattle.std.specs.Prelude.{◌≡◌, IsTrue, Bool, true, ◌&&◌, ◌||◌, not, List, [], if◌then◌else◌, map, zip}
use Rattle.dart_types.specs.Ty.{Ty}
use Rattle.flow_model.specs.Flow.{FlowModel}
use Rattle.flow_model.specs.TypeTests.{is_in, common_of, union_of}
use Rattle.flow_model.specs.declared.locals.LocalId.{LocalId}
use Rattle.flow_model.specs.declared.locals.Facts.{Facts}

-- the locals in scope, each with its declared type
abbrev pub scope_of : FlowModel → List (LocalId × Ty)
scope_of m = map (λ l. (l.var, l.ty)) m.locals

-- the same locals are in scope at both, with the same declared types
abbrev pub HaveSameScope : FlowModel → FlowModel → Type 0
HaveSameScope a b = scope_of a ≡ scope_of b

-- what is known of a local on both of two paths: it was promoted to what it was on both, tested for what it was on
-- either, and has or hasn't a value where it has or hasn't on both; one that is captured on either isn't promoted
abbrev pub join_facts : Facts → Facts → Facts
join_facts a b = record {
  var = a.var;
  ty = a.ty;
  chain = (if a.captured || b.captured then [] else common_of a.chain b.chain);
  tested = union_of a.tested b.tested;
  assigned = a.assigned && b.assigned;
  unassigned = a.unassigned && b.unassigned;
  captured = a.captured || b.captured;
}

-- a local is captured on neither of two paths, and was promoted to a type on both
abbrev pub promoted_on_both : Facts → Facts → Ty → Bool
promoted_on_both a b t = not (a.captured || b.captured) && (is_in a.chain t && is_in b.chain t)

-- what is known of each local on both paths; the locals are paired by their places
abbrev pub join_locals : List Facts → List Facts → List Facts
join_locals ls ms = map (λ pair. join_facts pair.0 pair.1) (zip ls ms)

-- the model where two paths meet: one that isn't reached gives way to the other, and the second to the first
abbrev pub join_of : FlowModel → FlowModel → FlowModel
join_of a b =
    if b.reachable
    then (if a.reachable then record { reachable = true; locals = join_locals a.locals b.locals } else b)
    else a

-- two paths of the same scope meet that are both reached
pub record BothReach (a b : FlowModel) : Type 0 where
  pub same_scope : HaveSameScope a b
  pub first : IsTrue a.reachable
  pub second : IsTrue b.reachable
