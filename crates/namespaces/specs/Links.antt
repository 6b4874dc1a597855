-- The exports among libraries, as links between their places.
use Rattle.std.specs.Prelude.{◌≡◌, ◌==◌, ◌⊎◌, ◌+◌, ◌<◌, ◌++◌, ◌∷◌, ℕ, Bool, true, false, not, List, [], length, set, count_by, Contains, Option, Some, None, slice_get, slice_index_or, nat_eq}
use Rattle.std.specs.HashMap.{HashMap, get}
use Rattle.element_terms.specs.declared.libraries.LibraryElement.{LibraryElement}
use Rattle.element_terms.specs.declared.libraries.ExportEdge.{ExportEdge}
use Rattle.element_terms.specs.Combinators.{brings}
use Rattle.library_graph.specs.Paths.{Path}
use Rattle.dart_types.specs.declared.ids.LibId.{LibId}
use Rattle.namespaces.specs.declared.links.Link.{Link}
use Rattle.namespaces.specs.declared.search.Search.{Search}
use Rattle.namespaces.specs.Exports.{Brings, place_in, place_of}

-- a link is an export of a library that is among the libraries
pub record IsLink (libraries : List LibraryElement) (link : Link) : Type 0 where
  pub exporter : LibraryElement
  pub edge : ExportEdge
  pub stands : slice_get libraries link.from ≡ Some exporter
  pub written : slice_get exporter.exports link.export ≡ Some edge
  pub target : place_of libraries edge.library ≡ Some link.to

-- the links that lead to a place, none where there is no list for it
abbrev pub links_to : List (List Link) → ℕ → List Link
links_to links to = slice_index_or links to []

-- the link that is put behind others for one export
abbrev pub PutsLink : ℕ → ℕ → Option ℕ → List (List Link) → List (List Link) → Type 0
PutsLink from export None old new = new ≡ old
PutsLink from export (Some to) old new = new ≡ set old to (links_to old to ++ (record { from = from; export = export; to = to }) ∷ [])

-- the links are those of the libraries before one, and of that the exports before one, a list for each library to which they lead
pub record AreLinks (libraries : List LibraryElement) (from export : ℕ) (links : List (List Link)) : Type 0 where
  pub size : length links ≡ length libraries
  pub only : (to : ℕ) (link : Link) → Contains (links_to links to) link → IsLink libraries link × (link.to ≡ to)
  pub all : (link : Link) → IsLink libraries link → (link.from < from) ⊎ ((link.from ≡ from) × (link.export < export)) → Contains (links_to links link.to) link

-- the table has the place of each library by its number
pub record IsPlaceTable {S : Type 0} (libraries : List LibraryElement) (table : HashMap ℕ ℕ S) : Type 0 where
  pub places : (id : LibId) → get nat_eq table id.0 ≡ place_of libraries id

-- the name goes along the link
pub record Passes (libraries : List LibraryElement) (name : List ℕ) (link : Link) : Type 0 where
  pub exporter : LibraryElement
  pub edge : ExportEdge
  pub stands : slice_get libraries link.from ≡ Some exporter
  pub written : slice_get exporter.exports link.export ≡ Some edge
  pub undeclared : place_in exporter name ≡ None
  pub passes : brings edge.combinators name ≡ true

-- whether the name goes along the link is what is answered
pub record AnswersPass (answer : Bool) (libraries : List LibraryElement) (name : List ℕ) (link : Link) : Type 0 where
  pub if_true : answer ≡ true → Passes libraries name link
  pub if_passes : Passes libraries name link → answer ≡ true

-- the place is marked
abbrev pub IsMarked : List Bool → ℕ → Type 0
IsMarked marks a = slice_index_or marks a false ≡ true

-- how many places are not marked
abbrev pub unmarked : List Bool → ℕ
unmarked marks = count_by not marks

-- a library exports nothing
abbrev pub is_idle : LibraryElement → Bool
is_idle library = length library.exports == 0

-- the library at the place exports nothing
pub record IsIdle (libraries : List LibraryElement) (place : ℕ) : Type 0 where
  pub none : (exporter : LibraryElement) → slice_get libraries place ≡ Some exporter → is_idle exporter ≡ true

-- one place is found, and it is marked beside those that were
pub record StartsAt (idle : List Bool) (to : ℕ) (s : Search) : Type 0 where
  pub marks : s.marks.items ≡ set idle to true
  pub left : s.left ≡ unmarked s.marks.items
  pub one : s.places.items ≡ to ∷ []

-- a place is found more, and marked
pub record Notes (place : ℕ) (old new : Search) : Type 0 where
  pub marks : new.marks.items ≡ set old.marks.items place true
  pub left : new.left + 1 ≡ old.left
  pub places : new.places.items ≡ old.places.items ++ place ∷ []

-- the places are found from which the name goes along the links, but for those that are marked, and they are marked
pub record Finds (libraries : List LibraryElement) (name : List ℕ) (links : List Link) (old new : Search) : Type 0 where
  pub size : length new.marks.items ≡ length old.marks.items
  pub left : new.left ≡ unmarked new.marks.items
  pub more : List ℕ
  pub found : new.places.items ≡ old.places.items ++ more
  pub only : (a : ℕ) → Contains more a → (link : Link) × Contains links link × Passes libraries name link × (link.from ≡ a)
  pub keeps : (a : ℕ) → IsMarked old.marks.items a → IsMarked new.marks.items a
  pub marked : (a : ℕ) → IsMarked new.marks.items a → IsMarked old.marks.items a ⊎ Contains more a
  pub all : (link : Link) → Contains links link → Passes libraries name link → IsMarked new.marks.items link.from
  pub work : new.left + length more ≡ old.left

-- the places of the libraries from which exports lead to a place so that each brings the name
pub record AreExporting (libraries : List LibraryElement) (name : List ℕ) (to : ℕ) (places : List ℕ) : Type 0 where
  pub only : (a : ℕ) → Contains places a → Path (Brings libraries name) a to
  pub all : (a : ℕ) → Path (Brings libraries name) a to → Contains places a
