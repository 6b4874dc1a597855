-- What a shape means by the facts of a point: the types that it names, and what its changes make known.
use Rattle.std.specs.Prelude.{ℕ, Bool, true, false, nat_eq, nat_le, List, [], ◌∷◌, if◌then◌else◌}
use Rattle.std.specs.List.{list_any}
use Rattle.dart_types.specs.Ty.{Ty}
use Rattle.dart_types.specs.Sizes.{size_of}
use Rattle.dart_types.specs.Tables.{Table}
use Rattle.dart_types.specs.declared.refusal.TheConstants.{NODE_LIMIT}
use Rattle.type_bounds.specs.NonNull.{non_null_of}
use Rattle.core_ir.specs.PointFacts.{PointFacts}
use Rattle.core_ir.specs.Program.{Function, Program}
use Rattle.core_ir.specs.Values.{int, bool}
use Rattle.core_ir.specs.declared.facts.Held.{Held}
use Rattle.core_ir.specs.declared.facts.Held.TheVariants.{Declared, Own, Shared}
use Rattle.core_ir.specs.declared.facts.Known.{Known}
use Rattle.core_check.specs.declared.parts.TypeSource.{TypeSource}
use Rattle.core_check.specs.declared.parts.TypeSource.TheVariants.{IntType, BoolType, OperandType, NonNullType}
use Rattle.core_check.specs.declared.parts.How.{How}
use Rattle.core_check.specs.declared.parts.How.TheVariants.{Fresh, Holds, Narrows}
use Rattle.core_check.specs.declared.parts.Change.{Change}
use Rattle.core_check.specs.Known.{is_shared, known_of, operand_type, slot_type}

-- a type without null; the type itself where more types would stand in it than may stand in a type
abbrev pub without_null : Table → Ty → Ty
without_null table t = if nat_le (size_of (non_null_of table t)) NODE_LIMIT then non_null_of table t else t

-- the type that a shape names
abbrev pub type_from : Program → Function → PointFacts → TypeSource → Ty
type_from p g f IntType = int
type_from p g f BoolType = bool
type_from p g f (OperandType operand) = operand_type g f operand
type_from p g f (NonNullType slot) = without_null p.rows.table (slot_type g f slot)

-- a slot that was shared stays so, and another has the type
abbrev pub held_as : Bool → Ty → Held
held_as shared t = if shared then Shared else Own t

-- what a change makes of what is known of its slot: a fresh cell has no value, the declared type and isn't shared; a cell that is given a value is assigned; and what is shared isn't narrowed
abbrev pub changed : Program → Function → PointFacts → How → Known → Known
changed p g f Fresh known = record { assigned = false; held = Declared }
changed p g f (Holds ty) known = record { assigned = true; held = held_as (is_shared known.held) (type_from p g f ty) }
changed p g f (Narrows ty) known = record { assigned = known.assigned; held = held_as (is_shared known.held) (type_from p g f ty) }

-- what is known of the slot with the number i after one change after another
abbrev pub changes_to : Program → Function → PointFacts → List Change → ℕ → Known → Known
changes_to p g f [] i known = known
changes_to p g f (c ∷ cs) i known = changes_to p g f cs i (if nat_eq c.slot.0 i then changed p g f c.how known else known)

-- what is known of the slot with the number i on a way with these changes
abbrev pub known_on : Program → Function → PointFacts → List Change → ℕ → Known
known_on p g f changes i = changes_to p g f changes i (known_of f i)

-- whether one of the changes is one of the slot with the number i
abbrev pub is_changed : List Change → ℕ → Bool
is_changed changes i = list_any (λ c. nat_eq c.slot.0 i) changes
