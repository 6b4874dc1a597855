-- What is known behind a `try` with a `finally` block, from what is known behind the body and the handlers, and behind the block.
use Rattle.std.specs.Prelude.{◌&&◌, ◌||◌, List, [], ◌++◌, if◌then◌else◌, filter, map, zip}
use Rattle.dart_types.specs.Ty.{Ty}
use Rattle.dart_types.specs.Tables.{Table}
use Rattle.flow_model.specs.TypeTests.{proper_sub, union_of}
use Rattle.flow_model.specs.Flow.{FlowModel, last_or}
use Rattle.flow_model.specs.Steps.{is_changed}
use Rattle.flow_model.specs.declared.locals.LocalId.{LocalId}
use Rattle.flow_model.specs.declared.locals.Facts.{Facts}

-- the types that the body promoted a local to, and then those of the block that are proper subtypes of the last of them
abbrev pub further_of : Table → Ty → List Ty → List Ty → List Ty
further_of table declared body block = body ++ filter (λ t. proper_sub table t (last_or declared body)) block

-- what is known of a local behind both: of one that the block writes or captures, what the block left; of another, what both found. It has a value where it has one behind either, and is captured where it is behind either
abbrev pub restrict_facts : Table → List LocalId → List LocalId → Facts → Facts → Facts
restrict_facts table written captured a b =
    let changed = is_changed written captured a.var in
    record {
      var = a.var;
      ty = a.ty;
      chain = (if a.captured || b.captured then [] else if changed then b.chain else further_of table a.ty a.chain b.chain);
      tested = (if changed then b.tested else union_of a.tested b.tested);
      assigned = a.assigned || b.assigned;
      unassigned = a.unassigned && b.unassigned;
      captured = a.captured || b.captured;
    }

-- what is known of each local; the locals are paired by their places
abbrev pub restrict_locals : Table → List LocalId → List LocalId → List Facts → List Facts → List Facts
restrict_locals table written captured ls ms = map (λ pair. restrict_facts table written captured pair.0 pair.1) (zip ls ms)

-- the model behind both: it is reached where both are
abbrev pub restrict_of : Table → FlowModel → FlowModel → List LocalId → List LocalId → FlowModel
restrict_of table body block written captured =
    record { reachable = body.reachable && block.reachable; locals = restrict_locals table written captured body.locals block.locals }
