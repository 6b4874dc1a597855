-- What is known at a point, from a flow model and the values that are held there.
use Rattle.std.specs.Prelude.{Bool, true, false, ◌||◌, List, [], ◌∷◌, ◌++◌, filter, fold, if◌then◌else◌, map}
use Rattle.dart_types.specs.Ty.{Ty}
use Rattle.flow_model.specs.Flow.{FlowModel, current_of}
use Rattle.flow_model.specs.declared.locals.Facts.{Facts}
use Rattle.core_ir.specs.PointFacts.{PointFacts, put}
use Rattle.core_ir.specs.declared.facts.Held.{Held}
use Rattle.core_ir.specs.declared.facts.Held.TheVariants.{Declared, Own, Shared}
use Rattle.core_ir.specs.declared.facts.Known.{Known}
use Rattle.core_ir.specs.declared.facts.SlotFact.{SlotFact}
use Rattle.core_ir.specs.declared.points.Operand.{Operand}
use Rattle.core_ir.specs.declared.points.Operand.TheVariants.{Slot, Constant}
use Rattle.core_ir.specs.declared.points.SlotId.{SlotId}
use Rattle.elaborate.specs.Sources.{Sources, slot_of_local}

-- whether a local is promoted to some type, by those that it is promoted to
abbrev pub is_promoted : List Ty → Bool
is_promoted [] = false
is_promoted (t ∷ ts) = true

-- whether anything is known of a local: that it has a value, that it is promoted, or that a closure writes it
abbrev pub says_something : Facts → Bool
says_something l = l.assigned || (is_promoted l.chain || l.captured)

-- what type the value of a local has that no closure writes: the one that it is promoted to last, or the declared one
abbrev pub own_held : Facts → Held
own_held l = if is_promoted l.chain then Own (current_of l) else Declared

-- what is known of the slot of a local: it is shared where a closure writes it
abbrev pub known_of_local : Facts → Known
known_of_local l = record { assigned = l.assigned; held = if l.captured then Shared else own_held l }

abbrev pub fact_of_local : Sources → Facts → SlotFact
fact_of_local x l = record { slot = slot_of_local x l.var; known = known_of_local l }

-- what is known of the slot of an expression whose value is held: it has the expression's type
abbrev pub fact_of_value : SlotId → SlotFact
fact_of_value slot = record { slot = slot; known = record { assigned = true; held = Declared } }

-- what is known of the slots of locals, where anything is
abbrev pub facts_of_locals : Sources → List Facts → List SlotFact
facts_of_locals x locals = map (fact_of_local x) (filter says_something locals)

-- what is known of slots where this is known of locals, and these values are held: a local of which nothing is known isn't listed
abbrev pub listed_facts : Sources → List Facts → (values : List SlotId) → List SlotFact
listed_facts x locals values = fold put (fold put [] (facts_of_locals x locals)) (map fact_of_value values)

-- what is known at a point
abbrev pub facts : Sources → FlowModel → (values : List SlotId) → PointFacts
facts x m values = record { reachable = m.reachable; listed = listed_facts x m.locals values }

-- the values that are held, with that of an operand, which a constant needn't be
abbrev pub holding : (values : List SlotId) → Operand → List SlotId
holding values (Slot slot) = values ++ slot ∷ []
holding values (Constant value) = values
