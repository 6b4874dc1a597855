-- What fails at a point, in the order of the clauses.
use Rattle.std.specs.Prelude.{◌≡◌, ℕ, zero, suc, ◌<◌, Bool, not, ◌||◌, nat_eq, List, [], ◌∷◌, ◌++◌, Some, if◌then◌else◌, flat_map, slice_get, length}
use Rattle.dart_types.specs.Ty.{Ty, invalid}
use Rattle.dart_types.specs.Same.{same_type}
use Rattle.dart_types.specs.SubTest.{sub}
use Rattle.dart_types.specs.Tables.{Table}
use Rattle.core_ir.specs.PointFacts.{PointFacts}
use Rattle.core_ir.specs.Program.{Function, Program}
use Rattle.core_ir.specs.Values.{declared_at}
use Rattle.core_ir.specs.declared.facts.Known.{Known}
use Rattle.core_ir.specs.declared.facts.SlotFact.{SlotFact}
use Rattle.core_ir.specs.declared.points.Operand.{Operand}
use Rattle.core_check.specs.declared.parts.Stored.{Stored}
use Rattle.core_check.specs.declared.parts.Asked.{Asked}
use Rattle.core_check.specs.Known.{point_at, function_of, facts_at, known_of, is_shared, held_type, is_assigned}
use Rattle.core_check.specs.Shapes.{WayShape, TermShape, shape}
use Rattle.core_check.specs.Types.{type_from, known_on}

-- a part of a clause that fails: the type that it asks for and the one that it finds
pub record Fault : Type 0 where
  pub expected : Ty
  pub found : Ty

-- what fails where a type has to be a subtype of another
abbrev pub unless_below : Table → (found expected : Ty) → List Fault
unless_below table found expected = if sub table found expected then [] else record { expected = expected; found = found } ∷ []

-- what fails where anything else has to hold: no types say it
abbrev pub unless : Bool → List Fault
unless holds = if holds then [] else record { expected = invalid; found = invalid } ∷ []

-- what fails of n slots, in their order
abbrev pub of_slots : ℕ → (ℕ → List Fault) → List Fault
of_slots zero faults = []
of_slots (suc n) faults = of_slots n faults ++ faults n

-- what is asked of a slot, in this order
pub data SlotPart : Type 0 where
  -- by a next point, that it is assigned where its facts say so; by an entry, that it isn't
  of_assigned : SlotPart
  -- by a next point, that it has a subtype of its type there; by an entry, that it has its declared type
  of_type : SlotPart
  -- by a next point, that it is shared there if it was; by an entry, that it isn't
  of_shared : SlotPart

-- what fails of a part on a way, for a slot by its declared type, what is known of it before and after
abbrev pub slot_faults : SlotPart → Table → Ty → (before after : Known) → List Fault
slot_faults of_assigned table declared before after = unless (not after.assigned || before.assigned)
slot_faults of_type table declared before after = unless_below table (held_type declared before.held) (held_type declared after.held)
slot_faults of_shared table declared before after = unless (not (is_shared before.held) || is_shared after.held)

-- what fails of a part on a way, for the slot with the number i
abbrev pub slot_on : Program → Function → PointFacts → SlotPart → WayShape → ℕ → List Fault
slot_on p g f part way i = slot_faults part p.rows.table (declared_at g i) (known_on p g f way.changes i) (known_of (facts_at p way.next.0) i)

-- what fails of a part on a way, slot by slot
abbrev pub way_faults : Program → Function → PointFacts → SlotPart → WayShape → List Fault
way_faults p g f part way = of_slots (length g.slots) (slot_on p g f part way)

-- what fails where a run may not come to the point that a way leads to
abbrev pub reach_faults : Program → WayShape → List Fault
reach_faults p way = unless (facts_at p way.next.0).reachable

-- what fails where a run goes on: part by part, and in each part way by way
abbrev pub next_faults : Program → Function → PointFacts → List WayShape → List Fault
next_faults p g f ways =
    flat_map (reach_faults p) ways
    ++ flat_map (way_faults p g f of_assigned) ways
    ++ flat_map (way_faults p g f of_type) ways
    ++ flat_map (way_faults p g f of_shared) ways

-- what fails of an operand that is read, of a value that is stored, and of types that are asked about
abbrev pub read_faults : PointFacts → Operand → List Fault
read_faults f operand = unless (is_assigned f operand)

abbrev pub stored_faults : Program → Function → PointFacts → Stored → List Fault
stored_faults p g f stored = unless_below p.rows.table (type_from p g f stored.ty) (declared_at g stored.slot.0)

abbrev pub asked_faults : Program → Function → PointFacts → Asked → List Fault
asked_faults p g f asked = unless_below p.rows.table (type_from p g f asked.found) (type_from p g f asked.expected)

-- what fails of a shape with what is known before its term: of what it reads, stores, asks and leaves, in this order
abbrev pub shape_faults : Program → Function → PointFacts → TermShape → List Fault
shape_faults p g f s =
    flat_map (read_faults f) s.reads
    ++ flat_map (stored_faults p g f) s.stores
    ++ flat_map (asked_faults p g f) s.asks
    ++ next_faults p g f s.ways

-- what fails of a part at an entry, for a slot by its declared type and what is known of it
abbrev pub entry_slot_faults : SlotPart → Ty → Known → List Fault
entry_slot_faults of_assigned declared known = unless (not known.assigned)
entry_slot_faults of_type declared known = unless (same_type (held_type declared known.held) declared)
entry_slot_faults of_shared declared known = unless (not (is_shared known.held))

-- what fails of a part at an entry, for the slot of a fact
abbrev pub entry_fact_faults : Function → SlotPart → SlotFact → List Fault
entry_fact_faults g part fact = entry_slot_faults part (declared_at g fact.slot.0) fact.known

-- what fails at an entry: that a run may come there, and then part by part, in each part fact by fact
abbrev pub entry_faults : Function → PointFacts → List Fault
entry_faults g f =
    unless f.reachable
    ++ flat_map (entry_fact_faults g of_assigned) f.listed
    ++ flat_map (entry_fact_faults g of_type) f.listed
    ++ flat_map (entry_fact_faults g of_shared) f.listed

-- what fails at the point with the number k: at its term, if a run may come to it, and then at the entry, if it is that of its function
abbrev pub faults_at : Program → ℕ → List Fault
faults_at p k =
    (if (facts_at p k).reachable then shape_faults p (function_of p k) (facts_at p k) (shape (point_at p k).term) else [])
    ++ (if nat_eq (function_of p k).entry.0 k then entry_faults (function_of p k) (facts_at p k) else [])

-- the fault is the first at the point with the number k, and no clause fails at a lesser one
pub record IsFirstFault (p : Program) (k : ℕ) (fault : Fault) : Type 0 where
  pub within : k < length p.points
  pub first : slice_get (faults_at p k) 0 ≡ Some fault
  pub below : (j : ℕ) → j < k → faults_at p j ≡ []
