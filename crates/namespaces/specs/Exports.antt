-- What libraries export.
use Rattle.std.specs.Prelude.{◌≡◌, ◌==◌, ℕ, true, false, List, Contains, Option, Some, None, position, slice_get}
use Rattle.dart_types.specs.declared.ids.LibId.{LibId}
use Rattle.element_terms.specs.declared.libraries.LibraryElement.{LibraryElement}
use Rattle.element_terms.specs.declared.libraries.ExportEdge.{ExportEdge}
use Rattle.element_terms.specs.NameTexts.{is_private}
use Rattle.element_terms.specs.Combinators.{brings}
use Rattle.element_terms.specs.Declarations.{declares}
use Rattle.namespaces.specs.declared.elements.ElementId.{ElementId}
use Rattle.namespaces.specs.declared.elements.Exported.{Exported}

-- the place of a library among libraries
abbrev pub place_of : List LibraryElement → LibId → Option ℕ
place_of libraries id = position (λ l. l.id.0 == id.0) libraries

-- the place of the declaration that gives a name its meaning in a library
abbrev pub place_in : LibraryElement → List ℕ → Option ℕ
place_in library name = position (λ d. declares d name) library.declared

-- the library at the one place doesn't declare the name, and an export of it that names the library at the other place brings it
pub record Brings (libraries : List LibraryElement) (name : List ℕ) (from to : ℕ) : Type 0 where
  pub exporter : LibraryElement
  pub export : ℕ
  pub edge : ExportEdge
  pub stands : slice_get libraries from ≡ Some exporter
  pub written : slice_get exporter.exports export ≡ Some edge
  pub target : place_of libraries edge.library ≡ Some to
  pub undeclared : place_in exporter name ≡ None
  pub passes : brings edge.combinators name ≡ true

-- The elements that a name means in the library at a place: the least set closed under declarations and, for a name that the library doesn't declare, under exports through their combinators, none of which brings a name that begins with `_`.
pub data Exports (libraries : List LibraryElement) (name : List ℕ) : ℕ → ElementId → Type 0 where
  own : {place : ℕ} → (library : LibraryElement) (at : ℕ) → slice_get libraries place ≡ Some library → place_in library name ≡ Some at → Exports libraries name place (record { library = library.id; place = at })
  brought : {from to : ℕ} {element : ElementId} → Brings libraries name from to → Exports libraries name to element → Exports libraries name from element

-- what a library exports, its own names that begin with `_` aside
pub record IsExport (libraries : List LibraryElement) (place : ℕ) (pair : Exported) : Type 0 where
  pub shown : is_private pair.name ≡ false
  pub exports : Exports libraries pair.name place pair.element

-- the pairs are what the library at the place exports
pub record AreExports (libraries : List LibraryElement) (place : ℕ) (pairs : List Exported) : Type 0 where
  pub only : (pair : Exported) → Contains pairs pair → IsExport libraries place pair
  pub all : (pair : Exported) → IsExport libraries place pair → Contains pairs pair
