-- What a well-formed program has.
use Rattle.std.proofs.Common.{◌≡◌, ℕ, ◌<◌, nat_eq, List, [], ◌++◌, if◌then◌else◌, length, refl, sym, subst, All}
use Rattle.std.proofs.lemmas.Option.{slice_get-get_or}
use Rattle.core_ir.specs.Program.{Function, Program}
use Rattle.core_ir.specs.declared.facts.SlotFact.{SlotFact}
use Rattle.core_ir.specs.declared.points.Point.{Point}
use Rattle.core_check.specs.Known.{no_point, function_at, point_at, facts_at}
use Rattle.core_check.specs.Faults.{Fault, shape_faults, entry_faults, faults_at}
use Rattle.core_check.specs.Shapes.{WayShape, shape}
use Rattle.core_check.specs.WellFormed.{IsSlot, IsPointOf, IsWay, IsWellFormed}

-- a point of it is well formed
pub point_is_in : (p : Program) (k : ℕ) → IsWellFormed p → k < length p.points → IsPointOf p k (point_at p k)
point_is_in p k well lt = well.points_in k (point_at p k) (slice_get-get_or p.points k no_point lt)

-- the facts behind a way list slots of the function
pub listed_behind : (p : Program) (g : Function) (n : ℕ) (way : WayShape) → IsWellFormed p → g ≡ function_at p n → IsWay p n way → All (λ (fact : SlotFact). IsSlot g fact.slot) (facts_at p way.next.0).listed
listed_behind p g n way well same is_way =
    subst (λ (h : Function). All (λ (fact : SlotFact). IsSlot h fact.slot) (facts_at p way.next.0).listed) (sym same)
    (subst (λ (m : ℕ). All (λ (fact : SlotFact). IsSlot (function_at p m) fact.slot) (facts_at p way.next.0).listed) is_way.same_function
    (point_is_in p way.next.0 well is_way.next_in).listed_in)

-- what fails at a point, by the point and its function
abbrev pub parts_of : Program → ℕ → Point → Function → List Fault
parts_of p k point g =
    (if point.facts.reachable then shape_faults p g point.facts (shape point.term) else [])
    ++ (if nat_eq g.entry.0 k then entry_faults g point.facts else [])

pub faults_are : (p : Program) (k : ℕ) (point : Point) (g : Function) → point ≡ point_at p k → g ≡ function_at p point.function.0 → faults_at p k ≡ parts_of p k point g
faults_are p k point g same of =
    subst (λ (q : Point). (g ≡ function_at p q.function.0) → faults_at p k ≡ parts_of p k q g) (sym same)
    (λ h. subst (λ (e : Function). faults_at p k ≡ parts_of p k (point_at p k) e) (sym h) refl) of
