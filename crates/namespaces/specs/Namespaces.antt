-- What each of several libraries exports, as one declaration after another is looked at.
use Rattle.std.specs.Prelude.{◌≡◌, ◌⊎◌, ◌<◌, ℕ, false, List, [], length, Contains, Some, slice_get, slice_index_or}
use Rattle.element_terms.specs.declared.libraries.LibraryElement.{LibraryElement}
use Rattle.element_terms.specs.NameTexts.{is_private}
use Rattle.library_graph.specs.Paths.{Path}
use Rattle.namespaces.specs.declared.elements.Exported.{Exported}
use Rattle.namespaces.specs.Exports.{AreExports, Brings, IsExport, place_in}

-- the pairs of the library at a place
abbrev pub pairs_at : List (List Exported) → ℕ → List Exported
pairs_at all place = slice_index_or all place []

-- each library has the pairs that it exports
pub record AreNamespaces (libraries : List LibraryElement) (all : List (List Exported)) : Type 0 where
  pub size : length all ≡ length libraries
  pub each : (place : ℕ) → place < length libraries → AreExports libraries place (pairs_at all place)

-- the libraries at the places have the pair more
pub record AddsPair (places : List ℕ) (pair : Exported) (old new : List (List Exported)) : Type 0 where
  pub size : length new ≡ length old
  pub keeps : (l : ℕ) (p : Exported) → Contains (pairs_at old l) p → Contains (pairs_at new l) p
  pub only : (l : ℕ) (p : Exported) → Contains (pairs_at new l) p → Contains (pairs_at old l) p ⊎ (Contains places l × (pair ≡ p))
  pub all : (l : ℕ) → Contains places l → Contains (pairs_at new l) pair

-- the libraries have more pairs, each of which they export
pub record Gains (libraries : List LibraryElement) (old new : List (List Exported)) : Type 0 where
  pub size : length new ≡ length old
  pub keeps : (l : ℕ) (p : Exported) → Contains (pairs_at old l) p → Contains (pairs_at new l) p
  pub only : (l : ℕ) (p : Exported) → Contains (pairs_at new l) p → Contains (pairs_at old l) p ⊎ IsExport libraries l p

-- where a declaration gives a name its meaning, every library that exports it has its pair
pub record Covers (libraries : List LibraryElement) (place at : ℕ) (name : List ℕ) (all : List (List Exported)) : Type 0 where
  pub covers : (library : LibraryElement) → slice_get libraries place ≡ Some library → is_private name ≡ false → place_in library name ≡ Some at → (l : ℕ) → Path (Brings libraries name) l place → Contains (pairs_at all l) (record { name = name; element = record { library = library.id; place = at } })

-- the same under every name
pub record CoversAll (libraries : List LibraryElement) (place at : ℕ) (all : List (List Exported)) : Type 0 where
  pub names : (name : List ℕ) → Covers libraries place at name all

-- and for every declaration of a library
pub record CoversLibrary (libraries : List LibraryElement) (place : ℕ) (all : List (List Exported)) : Type 0 where
  pub declared : (at : ℕ) → CoversAll libraries place at all

-- the library at the place has a declaration at the other place
pub record IsDeclaredAt (libraries : List LibraryElement) (place at : ℕ) : Type 0 where
  pub library : LibraryElement
  pub stands : slice_get libraries place ≡ Some library
  pub within : at < length library.declared
