-- Which exports are ambiguous, by the elements that they bring.
use Rattle.std.specs.Prelude.{◌≡◌, ℕ, true, List, Contains, Some, None}
use Rattle.element_terms.specs.declared.libraries.LibraryElement.{LibraryElement}
use Rattle.element_terms.specs.declared.libraries.ExportEdge.{ExportEdge}
use Rattle.element_terms.specs.Combinators.{brings}
use Rattle.namespaces.specs.declared.elements.ElementId.{ElementId}
use Rattle.namespaces.specs.Exports.{IsExport, place_in, place_of}

-- an export brings its library an element under a name that the library doesn't declare: the library that it names exports it, and its combinators let the name pass
pub record BringsElement (libraries : List LibraryElement) (library : LibraryElement) (export : ExportEdge) (name : List ℕ) (element : ElementId) : Type 0 where
  pub place : ℕ
  pub target : place_of libraries export.library ≡ Some place
  pub exports : IsExport libraries place (record { name = name; element = element })
  pub undeclared : place_in library name ≡ None
  pub passes : brings export.combinators name ≡ true

-- an export is ambiguous where it brings an element under a name under which an export before it brings another
pub record IsAmbiguousExport (libraries : List LibraryElement) (library : LibraryElement) (earlier : List ExportEdge) (export : ExportEdge) : Type 0 where
  pub name : List ℕ
  pub element : ElementId
  pub brought : BringsElement libraries library export name element
  pub before : ExportEdge
  pub written : Contains earlier before
  pub other : ElementId
  pub also : BringsElement libraries library before name other
  pub two : element ≡ other → ⊥
