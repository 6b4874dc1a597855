-- What an exit and code that may run any number of times, or later, do to what is known.
use Rattle.std.specs.Prelude.{Bool, false, ◌||◌, List, [], if◌then◌else◌, map}
use Rattle.flow_model.specs.Flow.{FlowModel, is_listed}
use Rattle.flow_model.specs.declared.locals.LocalId.{LocalId}
use Rattle.flow_model.specs.declared.locals.Facts.{Facts}

-- the model behind an exit: it isn't reached
abbrev pub exit_of : FlowModel → FlowModel
exit_of m = record { reachable = false; locals = m.locals }

-- whether code that writes the one locals and captures the other could change a local
abbrev pub is_changed : List LocalId → List LocalId → LocalId → Bool
is_changed written captured var = is_listed written var || is_listed captured var

-- what is known of a local around code that writes the one locals and captures the other: one of these is promoted
-- to nothing and may have a value
abbrev pub conservative_facts : List LocalId → List LocalId → Facts → Facts
conservative_facts written captured l =
    if is_changed written captured l.var
    then record l { chain = []; unassigned = false; captured = l.captured || is_listed captured l.var }
    else l

-- the model around such code
abbrev pub conservative_of : FlowModel → List LocalId → List LocalId → FlowModel
conservative_of m written captured =
    record { reachable = m.reachable; locals = map (conservative_facts written captured) m.locals }
