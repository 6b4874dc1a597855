-- How what is said of a node is found by the number of the node.
use Rattle.std.specs.Prelude.{◌≡◌, ℕ, ◌+◌, ◌<◌, ◌≤◌, ◌-◌, List, find, All, length, Option, Some, None, refl, slice_get, slice_index_or, slice_set, nat_le, if◌then◌else◌}
use Rattle.std.specs.Coded.{Coded, code_by, coded×, coded_ℕ, coded_list}
use Rattle.dart_types.specs.Ty.{Ty}
use Rattle.flow_model.specs.Flow.{FlowModel}
use Rattle.judgement.specs.NodeFacts.{NodeFacts, node_code}
use Rattle.elaborate.specs.Sources.{Sources, is_of_node, nowhere}

-- how what code is made from is stored
abbrev pub sources_code : Coded Sources
sources_code =
    code_by (List (List ℕ) × (ℕ × List NodeFacts)) (coded× (coded_list (coded_list coded_ℕ)) (coded× coded_ℕ (coded_list node_code)))
    (λ x. (x.words, (x.first, x.typed)))
    (λ p. record { words = p.0; first = p.1.0; typed = p.1.1 })
    (λ _. refl)

-- all that is said is said of nodes whose numbers are so many, from the first on
abbrev pub HasNumbers : (first count : ℕ) → List NodeFacts → Type 0
HasNumbers first count typed = All (λ (said : NodeFacts). (first ≤ said.node.0) × (said.node.0 < first + count)) typed

-- each entry leads to the first that is said of its node by those that come last in all that is said
pub record Indexes (first count : ℕ) (all last : List NodeFacts) (entries : List ℕ) : Type 0 where
  pub as_many : length entries ≡ count
  pub found : (k : ℕ) → k < count → slice_get all (slice_index_or entries k 0) ≡ find (is_of_node (first + k)) last

-- so does it by all, and of another node nothing is said
pub record IsIndexed (first : ℕ) (typed : List NodeFacts) (entries : List ℕ) (unreached : FlowModel) : Type 0 where
  pub below : (n : ℕ) → n < first → find (is_of_node n) typed ≡ None
  pub beyond : (n : ℕ) → first + length entries ≤ n → find (is_of_node n) typed ≡ None
  pub within : (k : ℕ) → k < length entries → slice_get typed (slice_index_or entries k 0) ≡ find (is_of_node (first + k)) typed
  pub unreached_is : unreached ≡ nowhere

-- the types of slots with another one for the node with the number n, if that has a slot
abbrev pub with_type : (first n : ℕ) → Ty → List Ty → List Ty
with_type first n ty slots = if nat_le first n then slice_set slots (n - first) ty else slots

-- the types of slots with the one that a node declares its slot with, if it declares one
abbrev pub with_declared : (first n : ℕ) → Option Ty → List Ty → List Ty
with_declared first n (Some ty) slots = with_type first n ty slots
with_declared first n None slots = slots
