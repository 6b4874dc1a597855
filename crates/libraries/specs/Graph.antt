-- Which libraries lead to which.
use Rattle.std.specs.Prelude.{ℕ, ◌+◌, Bool, true, false, ◌&&◌, List, [], ◌∷◌, ◌++◌, nat_lt, if◌then◌else◌, Option, Some, None}
use Rattle.library_graph.specs.declared.edges.Edge.{Edge}
use Rattle.libraries.specs.declared.aims.Aim.{Aim}
use Rattle.libraries.specs.declared.aims.AimKind.{AimKind}
use Rattle.libraries.specs.declared.aims.AimKind.TheVariants.{Library, Import, Export, Part, PartOf, PartOfName}
use Rattle.libraries.specs.declared.heads.Head.{Head}
use Rattle.libraries.specs.Elements.{if_library}
use Rattle.libraries.specs.Heads.{is_library_at}

-- an import or an export leads to another library
abbrev pub leads : AimKind → Bool
leads Library = false
leads Import = true
leads Export = true
leads Part = false
leads PartOf = false
leads PartOfName = false

-- an edge to a place below the count
abbrev pub edge_to : (count from : ℕ) → Option ℕ → List Edge
edge_to count from None = []
edge_to count from (Some to) = if nat_lt to count then record { from = from; to = to } ∷ [] else []

-- the edge that a directive of the library at a place is
abbrev pub edge_at : List Head → (count from : ℕ) → Aim → List Edge
edge_at heads count from aim = if leads aim.kind then edge_to count from (if_library heads aim.target) else []

-- those of all its directives
abbrev pub edges_in : List Head → (count from : ℕ) → List Aim → List Edge
edges_in heads count from [] = []
edges_in heads count from (aim ∷ more) = edge_at heads count from aim ++ edges_in heads count from more

-- a library leads to `dart:core`, which stands at the first place, and to the libraries that it imports or exports
abbrev pub leading_from : List Head → (count from : ℕ) → List Aim → List Edge
leading_from heads count from aims = if nat_lt from count && is_library_at heads from then edge_to count from (Some 0) ++ edges_in heads count from aims else []

-- the edges of files, the first of which stands at a place
abbrev pub edges_from : List Head → (count from : ℕ) → List (List Aim) → List Edge
edges_from heads count from [] = []
edges_from heads count from (aims ∷ more) = leading_from heads count from aims ++ edges_from heads count (from + 1) more
