-- A point has no faults just where no clause fails there.
use Rattle.std.proofs.Common.{◌≡◌, ℕ, Bool, true, false, nat_eq, List, [], if◌then◌else◌, length, not, refl, IsTrue, IsFalse, ◌↔◌, All, eq-eqb, eqb-true}
use Rattle.std.specs.Prelude.{flat_map}
use Rattle.dart_types.specs.Ty.{Ty}
use Rattle.dart_types.specs.Same.{same_type}
use Rattle.core_ir.specs.PointFacts.{PointFacts}
use Rattle.core_ir.specs.Program.{Function, Program}
use Rattle.core_ir.specs.Values.{declared_at}
use Rattle.core_ir.specs.declared.facts.SlotFact.{SlotFact}
use Rattle.core_check.specs.declared.parts.Stored.{Stored}
use Rattle.core_check.specs.declared.parts.Asked.{Asked}
use Rattle.core_check.specs.Known.{point_at, function_of, facts_at, known_of, is_shared, held_type, is_assigned}
use Rattle.core_check.specs.Shapes.{WayShape, TermShape, shape}
use Rattle.core_check.specs.Types.{type_from, known_on}
use Rattle.core_check.specs.Accepted.{SlotImplies, Leads, IsFine, BeginsEmpty, IsEntry, IsFineAt}
use Rattle.core_check.specs.Faults.{Fault, SlotPart, of_assigned, of_type, of_shared, unless, slot_on, way_faults, reach_faults, next_faults, read_faults, stored_faults, asked_faults, shape_faults, entry_fact_faults, entry_faults, faults_at}
use Rattle.core_check.proofs.NoFaults.{unless_none, below_none, implies_none, both_none, append_none, four_none, none_four, each_none, all_none, all_map, slots_none, none_slots}

module _ (p : Program) (g : Function) (f : PointFacts) where
  -- the types of a slot on a way and behind it
  abbrev type_on : WayShape → ℕ → Ty
  type_on way i = held_type (declared_at g i) (known_on p g f way.changes i).held

  abbrev type_behind : WayShape → ℕ → Ty
  type_behind way i = held_type (declared_at g i) (known_of (facts_at p way.next.0) i).held

  -- where a slot's facts imply those behind the way, no part of it fails
  slot_none : (part : SlotPart) (way : WayShape) (i : ℕ) → SlotImplies p.rows.table (declared_at g i) (known_on p g f way.changes i) (known_of (facts_at p way.next.0) i) → slot_on p g f part way i ≡ []
  slot_none of_assigned way i s = (implies_none (known_of (facts_at p way.next.0) i).assigned (known_on p g f way.changes i).assigned).0 s.assigned
  slot_none of_type way i s = (below_none p.rows.table (type_on way i) (type_behind way i)).0 s.narrower
  slot_none of_shared way i s = (implies_none (is_shared (known_on p g f way.changes i).held) (is_shared (known_of (facts_at p way.next.0) i).held)).0 s.shared

  part_none : (part : SlotPart) (way : WayShape) → Leads p g f way → way_faults p g f part way ≡ []
  part_none part way leads = none_slots (length g.slots) (slot_on p g f part way) (λ i lt. slot_none part way i (leads.slots i lt))

  -- a way leads on where no part of it fails
  leads_from_none : (way : WayShape) → reach_faults p way ≡ [] → way_faults p g f of_assigned way ≡ [] → way_faults p g f of_type way ≡ [] → way_faults p g f of_shared way ≡ [] → Leads p g f way
  leads_from_none way reached assigned typed shared = record {
    reachable = (unless_none (facts_at p way.next.0).reachable).1 reached;
    slots = λ i lt. record {
      assigned = (implies_none (known_of (facts_at p way.next.0) i).assigned (known_on p g f way.changes i).assigned).1 (slots_none (length g.slots) (slot_on p g f of_assigned way) assigned i lt);
      narrower = (below_none p.rows.table (type_on way i) (type_behind way i)).1 (slots_none (length g.slots) (slot_on p g f of_type way) typed i lt);
      shared = (implies_none (is_shared (known_on p g f way.changes i).held) (is_shared (known_of (facts_at p way.next.0) i).held)).1 (slots_none (length g.slots) (slot_on p g f of_shared way) shared i lt);
    };
  }

  pub next_none : (ways : List WayShape) → All (Leads p g f) ways → next_faults p g f ways ≡ []
  next_none ways leads =
      none_four (flat_map (reach_faults p) ways) (flat_map (way_faults p g f of_assigned) ways) (flat_map (way_faults p g f of_type) ways) (flat_map (way_faults p g f of_shared) ways)
      (all_none (reach_faults p) ways (all_map ways (λ way (l : Leads p g f way). (unless_none (facts_at p way.next.0).reachable).0 l.reachable) leads))
      (all_none (way_faults p g f of_assigned) ways (all_map ways (part_none of_assigned) leads))
      (all_none (way_faults p g f of_type) ways (all_map ways (part_none of_type) leads))
      (all_none (way_faults p g f of_shared) ways (all_map ways (part_none of_shared) leads))

  leads_all : (ways : List WayShape) → next_faults p g f ways ≡ [] → All (Leads p g f) ways
  leads_all ways h k d lt =
      let none = four_none (flat_map (reach_faults p) ways) (flat_map (way_faults p g f of_assigned) ways) (flat_map (way_faults p g f of_type) ways) (flat_map (way_faults p g f of_shared) ways) h in
      leads_from_none _ (each_none (reach_faults p) ways none.0 k d lt) (each_none (way_faults p g f of_assigned) ways none.1 k d lt) (each_none (way_faults p g f of_type) ways none.2 k d lt) (each_none (way_faults p g f of_shared) ways none.3 k d lt)

  shape_none : (s : TermShape) → IsFine p g f s → shape_faults p g f s ≡ []
  shape_none s fine =
      none_four (flat_map (read_faults f) s.reads) (flat_map (stored_faults p g f) s.stores) (flat_map (asked_faults p g f) s.asks) (next_faults p g f s.ways)
      (all_none (read_faults f) s.reads (all_map s.reads (λ operand. (unless_none (is_assigned f operand)).0) fine.read))
      (all_none (stored_faults p g f) s.stores (all_map s.stores (λ (st : Stored). (below_none p.rows.table (type_from p g f st.ty) (declared_at g st.slot.0)).0) fine.stored))
      (all_none (asked_faults p g f) s.asks (all_map s.asks (λ (a : Asked). (below_none p.rows.table (type_from p g f a.found) (type_from p g f a.expected)).0) fine.asked))
      (next_none s.ways fine.leads)

  fine_from_none : (s : TermShape) → shape_faults p g f s ≡ [] → IsFine p g f s
  fine_from_none s h =
      let none = four_none (flat_map (read_faults f) s.reads) (flat_map (stored_faults p g f) s.stores) (flat_map (asked_faults p g f) s.asks) (next_faults p g f s.ways) h in
      record {
        read = all_map s.reads (λ operand. (unless_none (is_assigned f operand)).1) (each_none (read_faults f) s.reads none.0);
        stored = all_map s.stores (λ (st : Stored). (below_none p.rows.table (type_from p g f st.ty) (declared_at g st.slot.0)).1) (each_none (stored_faults p g f) s.stores none.1);
        asked = all_map s.asks (λ (a : Asked). (below_none p.rows.table (type_from p g f a.found) (type_from p g f a.expected)).1) (each_none (asked_faults p g f) s.asks none.2);
        leads = leads_all s.ways none.3;
      }

-- something doesn't hold just where this gives no fault
unless_not_none : (b : Bool) → IsFalse b ↔ (unless (not b) ≡ [])
unless_not_none true = (λ h. absurd cc, λ h. absurd cc)
unless_not_none false = (λ h. refl, λ h. refl)

-- the test whether types are the same holds just of equal ones
abbrev pub SameTypeLaw : Type 0
SameTypeLaw = (s t : Ty) → IsTrue (same_type s t) ↔ (s ≡ t)

module _ (law : SameTypeLaw) (g : Function) where
  -- the declared type of the slot of a fact, and the one that the fact tells
  abbrev declared_by : SlotFact → Ty
  declared_by fact = declared_at g fact.slot.0

  abbrev held_by : SlotFact → Ty
  held_by fact = held_type (declared_by fact) fact.known.held

  -- where a fact says what holds where the function begins, no part of it fails
  begins_none : (part : SlotPart) (fact : SlotFact) → BeginsEmpty g fact → entry_fact_faults g part fact ≡ []
  begins_none of_assigned fact b = (unless_not_none fact.known.assigned).0 b.unassigned
  begins_none of_type fact b = (unless_none (same_type (held_by fact) (declared_by fact))).0 ((law (held_by fact) (declared_by fact)).1 b.declared)
  begins_none of_shared fact b = (unless_not_none (is_shared fact.known.held)).0 b.own

  begins_from_none : (fact : SlotFact) → entry_fact_faults g of_assigned fact ≡ [] → entry_fact_faults g of_type fact ≡ [] → entry_fact_faults g of_shared fact ≡ [] → BeginsEmpty g fact
  begins_from_none fact assigned typed shared = record {
    unassigned = (unless_not_none fact.known.assigned).1 assigned;
    declared = (law (held_by fact) (declared_by fact)).0 ((unless_none (same_type (held_by fact) (declared_by fact))).1 typed);
    own = (unless_not_none (is_shared fact.known.held)).1 shared;
  }

  entry_none : (f : PointFacts) → IsEntry g f → entry_faults g f ≡ []
  entry_none f entry =
      none_four (unless f.reachable) (flat_map (entry_fact_faults g of_assigned) f.listed) (flat_map (entry_fact_faults g of_type) f.listed) (flat_map (entry_fact_faults g of_shared) f.listed)
      ((unless_none f.reachable).0 entry.reachable)
      (all_none (entry_fact_faults g of_assigned) f.listed (all_map f.listed (begins_none of_assigned) entry.begins))
      (all_none (entry_fact_faults g of_type) f.listed (all_map f.listed (begins_none of_type) entry.begins))
      (all_none (entry_fact_faults g of_shared) f.listed (all_map f.listed (begins_none of_shared) entry.begins))

  entry_from_none : (f : PointFacts) → entry_faults g f ≡ [] → IsEntry g f
  entry_from_none f h =
      let none = four_none (unless f.reachable) (flat_map (entry_fact_faults g of_assigned) f.listed) (flat_map (entry_fact_faults g of_type) f.listed) (flat_map (entry_fact_faults g of_shared) f.listed) h in
      record {
        reachable = (unless_none f.reachable).1 none.0;
        begins = λ k d lt.
            begins_from_none _ (each_none (entry_fact_faults g of_assigned) f.listed none.1 k d lt) (each_none (entry_fact_faults g of_type) f.listed none.2 k d lt) (each_none (entry_fact_faults g of_shared) f.listed none.3 k d lt);
      }

-- a list that stands under a condition
under_none : (b : Bool) (xs : List Fault) → (IsTrue b → xs ≡ []) ↔ ((if b then xs else []) ≡ [])
under_none true xs = (λ h. h refl, λ h k. h)
under_none false xs = (λ h. refl, λ h k. absurd cc)

same_number : (j k : ℕ) → (j ≡ k) ↔ IsTrue (nat_eq j k)
same_number j k = (eq-eqb j k, eqb-true j k)

-- what fails at the term of a point, and at the entry
abbrev reached_faults : Program → ℕ → List Fault
reached_faults p k = if (facts_at p k).reachable then shape_faults p (function_of p k) (facts_at p k) (shape (point_at p k).term) else []

abbrev first_faults : Program → ℕ → List Fault
first_faults p k = if nat_eq (function_of p k).entry.0 k then entry_faults (function_of p k) (facts_at p k) else []

reached_is : (p : Program) (k : ℕ) → (IsTrue (facts_at p k).reachable → shape_faults p (function_of p k) (facts_at p k) (shape (point_at p k).term) ≡ []) ↔ (reached_faults p k ≡ [])
reached_is p k = under_none (facts_at p k).reachable (shape_faults p (function_of p k) (facts_at p k) (shape (point_at p k).term))

first_none : (p : Program) (k : ℕ) → (IsTrue (nat_eq (function_of p k).entry.0 k) → entry_faults (function_of p k) (facts_at p k) ≡ []) ↔ (first_faults p k ≡ [])
first_none p k = under_none (nat_eq (function_of p k).entry.0 k) (entry_faults (function_of p k) (facts_at p k))

none_at_fine : SameTypeLaw → (p : Program) (k : ℕ) → IsFineAt p k → faults_at p k ≡ []
none_at_fine law p k fine =
    append_none (reached_faults p k) (first_faults p k)
    ((reached_is p k).0 (λ reached. shape_none p (function_of p k) (facts_at p k) (shape (point_at p k).term) (fine.fine reached)))
    ((first_none p k).0 (λ first. entry_none law (function_of p k) (facts_at p k) (fine.entry ((same_number (function_of p k).entry.0 k).1 first))))

fine_at_none : SameTypeLaw → (p : Program) (k : ℕ) → faults_at p k ≡ [] → IsFineAt p k
fine_at_none law p k h =
    let both = both_none (reached_faults p k) (first_faults p k) h in
    record {
      fine = λ reached. fine_from_none p (function_of p k) (facts_at p k) (shape (point_at p k).term) ((reached_is p k).1 both.0 reached);
      entry = λ first. entry_from_none law (function_of p k) (facts_at p k) ((first_none p k).1 both.1 ((same_number (function_of p k).entry.0 k).0 first));
    }

-- no clause fails at a point just where it has no fault
pub fine_at_is : SameTypeLaw → (p : Program) (k : ℕ) → IsFineAt p k ↔ (faults_at p k ≡ [])
fine_at_is law p k = (none_at_fine law p k, fine_at_none law p k)
