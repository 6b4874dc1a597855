-- What is known at a point, as a value.
use Rattle.std.specs.Prelude.{◌≡◌, ℕ, Bool, ◌<◌, nat_eq, nat_lt, List, [], ◌∷◌, if◌then◌else◌, AllPairs, refl, flat_map, length, slice_index_or, take}
use Rattle.std.specs.Coded.{Coded, code_by, coded×, coded_bool, coded_list}
use Rattle.core_ir.specs.declared.facts.SlotFact.{SlotFact}
use Rattle.core_ir.specs.contracts.facts.SlotFact as slot_fact

-- whether a run may come to the point, and what is known of slots, in their order: of a slot that isn't listed nothing is
pub record PointFacts : Type 0 where
  pub reachable : Bool
  pub listed : List SlotFact

-- each slot comes before those behind it
abbrev pub AreInOrder : List SlotFact → Type 0
AreInOrder listed = AllPairs (λ (a b : SlotFact). a.slot.0 < b.slot.0) listed

-- facts with one more: it stands before those of greater slots, in place of what was known of its own
abbrev pub put : List SlotFact → SlotFact → List SlotFact
put [] fact = fact ∷ []
put (first ∷ rest) fact =
    if nat_lt first.slot.0 fact.slot.0 then first ∷ put rest fact else (if nat_eq first.slot.0 fact.slot.0 then fact ∷ rest else fact ∷ first ∷ rest)

-- each page knows how many facts stand in the pages before it
abbrev pub AreCounted : {Page : Type 0} → (before : Page → ℕ) → (facts : Page → List SlotFact) → List Page → Type 0
AreCounted {Page} before facts pages = (k : ℕ) (none : Page) → k < length pages → before (slice_index_or pages k none) ≡ length (flat_map facts (take k pages))

-- how the facts of a point are stored
abbrev pub facts_code : Coded PointFacts
facts_code =
    code_by (Bool × List SlotFact) (coded× coded_bool (coded_list slot_fact.the_row.coded)) (λ f. (f.reachable, f.listed)) (λ p. record { reachable = p.0; listed = p.1 }) (λ _. refl)
