-- What is known at a point of a program.
use Rattle.std.specs.Prelude.{ℕ, Bool, true, false, nat_eq, List, [], ◌∷◌, None, slice_index_or, if◌then◌else◌}
use Rattle.dart_types.specs.Ty.{Ty}
use Rattle.core_ir.specs.PointFacts.{PointFacts}
use Rattle.core_ir.specs.Program.{Function, Program}
use Rattle.core_ir.specs.Values.{no_objects, type_of, declared_at}
use Rattle.core_ir.specs.declared.facts.Held.{Held}
use Rattle.core_ir.specs.declared.facts.Held.TheVariants.{Declared, Own, Shared}
use Rattle.core_ir.specs.declared.facts.Known.{Known}
use Rattle.core_ir.specs.declared.facts.SlotFact.{SlotFact}
use Rattle.core_ir.specs.declared.points.SlotId.{SlotId}
use Rattle.core_ir.specs.declared.points.Point.{Point}
use Rattle.core_ir.specs.declared.points.Operand.{Operand}
use Rattle.core_ir.specs.declared.points.Operand.TheVariants.{Slot, Constant}
use Rattle.core_ir.specs.declared.points.Term.TheVariants.{End}

-- what stands for a function past the last one
abbrev pub no_function : Function
no_function = record { slots = []; entry = record { 0 = 0 } }

-- what stands for a point past the last one: a run doesn't come to it
abbrev pub no_point : Point
no_point = record { function = record { 0 = 0 }; site = None; facts = record { reachable = false; listed = [] }; term = End }

-- the function with the number n
abbrev pub function_at : Program → ℕ → Function
function_at p n = slice_index_or p.functions n no_function

-- the point with the number k
abbrev pub point_at : Program → ℕ → Point
point_at p k = slice_index_or p.points k no_point

-- the function that the point with the number k is of
abbrev pub function_of : Program → ℕ → Function
function_of p k = function_at p (point_at p k).function.0

-- what is known at the point with the number k
abbrev pub facts_at : Program → ℕ → PointFacts
facts_at p k = (point_at p k).facts

-- what is known of a slot that isn't listed: nothing
abbrev pub unlisted : Known
unlisted = record { assigned = false; held = Declared }

-- what a list of facts says of the slot with the number i
abbrev pub known_in : List SlotFact → ℕ → Known
known_in [] i = unlisted
known_in (fact ∷ facts) i = if nat_eq fact.slot.0 i then fact.known else known_in facts i

-- what is known of the slot with the number i
abbrev pub known_of : PointFacts → ℕ → Known
known_of f i = known_in f.listed i

-- whether a slot is shared
abbrev pub is_shared : Held → Bool
is_shared Declared = false
is_shared (Own t) = false
is_shared Shared = true

-- the type that a slot has: its own, or the declared one
abbrev pub held_type : Ty → Held → Ty
held_type declared Declared = declared
held_type declared (Own t) = t
held_type declared Shared = declared

-- the type that a slot has by the facts
abbrev pub slot_type : Function → PointFacts → SlotId → Ty
slot_type g f slot = held_type (declared_at g slot.0) (known_of f slot.0).held

-- the type that an operand has by the facts
abbrev pub operand_type : Function → PointFacts → Operand → Ty
operand_type g f (Slot slot) = slot_type g f slot
operand_type g f (Constant value) = type_of no_objects value

-- whether an operand has a value for certain
abbrev pub is_assigned : PointFacts → Operand → Bool
is_assigned f (Slot slot) = (known_of f slot.0).assigned
is_assigned f (Constant value) = true
