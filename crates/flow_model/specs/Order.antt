-- Which of two models says more.
use Rattle.std.specs.Prelude.{◌≡◌, IsTrue, List, Option, Some}
use Rattle.std.specs.Option.{option_map}
use Rattle.dart_types.specs.Ty.{Ty}
use Rattle.dart_types.specs.Tables.{Table}
use Rattle.flow_model.specs.TypeTests.{is_in}
use Rattle.flow_model.specs.Flow.{FlowModel, facts_of, last_or}
use Rattle.flow_model.specs.Assign.{kept_chain}
use Rattle.flow_model.specs.declared.locals.LocalId.{LocalId}
use Rattle.flow_model.specs.declared.locals.Facts.{Facts}

-- each type of the second list is in the first
pub record Includes (ss ts : List Ty) : Type 0 where
  pub each : (t : Ty) → IsTrue (is_in ts t) → IsTrue (is_in ss t)

-- The first facts of a local say at least as much as the second: each type of the second chain stands in the first, what is certain of its value is certain, and it is captured only where it is by the second too. That the current type is a subtype is less: two paths with A and with B, both subtypes of C, meet where neither is known.
pub record SaysMore (l m : Facts) : Type 0 where
  pub declared : l.ty ≡ m.ty
  pub chain : Includes l.chain m.chain
  pub assigned : IsTrue m.assigned → IsTrue l.assigned
  pub unassigned : IsTrue m.unassigned → IsTrue l.unassigned
  pub captured : IsTrue l.captured → IsTrue m.captured

-- the model says at least as much of a local as these facts
pub record Knows (a : FlowModel) (var : LocalId) (m : Facts) : Type 0 where
  pub facts : Facts
  pub known : facts_of a var ≡ Some facts
  pub says_more : SaysMore facts m

-- The first model says at least as much as the second: it isn't reached, or the second is reached too, and each local in scope there is in scope in the first, which says at least as much of it.
pub record Implies (a b : FlowModel) : Type 0 where
  pub reached : IsTrue a.reachable → IsTrue b.reachable
  pub locals : IsTrue a.reachable → (var : LocalId) (m : Facts) → facts_of b var ≡ Some m → Knows a var m

-- the current type that a local has of those which a written value has
abbrev pub kept_in : Table → Ty → FlowModel → LocalId → Option Ty
kept_in table written m var = option_map (λ l. last_or l.ty (kept_chain table written l)) (facts_of m var)

-- the types that a local was tested for, if it is in scope
abbrev pub tested_in : FlowModel → LocalId → Option (List Ty)
tested_in m var = option_map (λ l. l.tested) (facts_of m var)
