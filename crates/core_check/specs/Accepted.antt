-- Which programs are accepted: the clauses.
use Rattle.std.specs.Prelude.{◌≡◌, ℕ, ◌<◌, IsTrue, IsFalse, All, length}
use Rattle.dart_types.specs.Ty.{Ty}
use Rattle.dart_types.specs.SubTest.{sub}
use Rattle.dart_types.specs.Tables.{Table}
use Rattle.core_ir.specs.PointFacts.{PointFacts}
use Rattle.core_ir.specs.Program.{Function, Program}
use Rattle.core_ir.specs.Values.{declared_at}
use Rattle.core_ir.specs.declared.facts.Known.{Known}
use Rattle.core_ir.specs.declared.facts.SlotFact.{SlotFact}
use Rattle.core_ir.specs.declared.points.Operand.{Operand}
use Rattle.core_check.specs.declared.parts.Stored.{Stored}
use Rattle.core_check.specs.declared.parts.Asked.{Asked}
use Rattle.core_check.specs.Known.{point_at, function_of, facts_at, known_of, is_shared, held_type, is_assigned}
use Rattle.core_check.specs.Shapes.{WayShape, TermShape, shape}
use Rattle.core_check.specs.Types.{type_from, known_on}

-- what is read has a value
abbrev pub IsReadable : PointFacts → Operand → Type 0
IsReadable f operand = IsTrue (is_assigned f operand)

-- a stored value's type is a subtype of the declared type
abbrev pub FitsDeclared : Program → Function → PointFacts → Stored → Type 0
FitsDeclared p g f stored = IsTrue (sub p.rows.table (type_from p g f stored.ty) (declared_at g stored.slot.0))

-- a type is a subtype of the one that is asked for
abbrev pub FitsAsked : Program → Function → PointFacts → Asked → Type 0
FitsAsked p g f asked = IsTrue (sub p.rows.table (type_from p g f asked.found) (type_from p g f asked.expected))

-- what is known of a slot before implies what is known of it after: assigned, of a subtype, and shared if it was
pub record SlotImplies (table : Table) (declared : Ty) (before after : Known) : Type 0 where
  pub assigned : IsTrue after.assigned → IsTrue before.assigned
  pub narrower : IsTrue (sub table (held_type declared before.held) (held_type declared after.held))
  pub shared : IsTrue (is_shared before.held) → IsTrue (is_shared after.held)

-- what is known on a way implies the facts of the point that it leads to, which a run may come to
pub record Leads (p : Program) (g : Function) (f : PointFacts) (way : WayShape) : Type 0 where
  pub reachable : IsTrue (facts_at p way.next.0).reachable
  pub slots : (i : ℕ) → i < length g.slots → SlotImplies p.rows.table (declared_at g i) (known_on p g f way.changes i) (known_of (facts_at p way.next.0) i)

-- a shape with what is known before its term: what it reads is assigned, what it stores has the declared type, what it asks holds, and what it leaves implies what is known at each point that comes next
pub record IsFine (p : Program) (g : Function) (f : PointFacts) (s : TermShape) : Type 0 where
  pub read : All (IsReadable f) s.reads
  pub stored : All (FitsDeclared p g f) s.stores
  pub asked : All (FitsAsked p g f) s.asks
  pub leads : All (Leads p g f) s.ways

-- a fact says what holds where a function begins: its slot has no value, has its declared type, and isn't shared
pub record BeginsEmpty (g : Function) (fact : SlotFact) : Type 0 where
  pub unassigned : IsFalse fact.known.assigned
  pub declared : held_type (declared_at g fact.slot.0) fact.known.held ≡ declared_at g fact.slot.0
  pub own : IsFalse (is_shared fact.known.held)

-- a run may come to an entry, and its facts say what holds where the function begins; so does a slot that isn't listed
pub record IsEntry (g : Function) (f : PointFacts) : Type 0 where
  pub reachable : IsTrue f.reachable
  pub begins : All (BeginsEmpty g) f.listed

-- no clause fails at the point with the number k: its term is fine if a run may come to it, and the entry of its function is an entry
pub record IsFineAt (p : Program) (k : ℕ) : Type 0 where
  pub fine : IsTrue (facts_at p k).reachable → IsFine p (function_of p k) (facts_at p k) (shape (point_at p k).term)
  pub entry : (function_of p k).entry.0 ≡ k → IsEntry (function_of p k) (facts_at p k)

-- no clause fails at any point
pub record IsAccepted (p : Program) : Type 0 where
  pub each : (k : ℕ) → k < length p.points → IsFineAt p k
