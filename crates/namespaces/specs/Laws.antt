-- Laws of ambiguous exports.
use Rattle.std.specs.Prelude.{◌≡◌, ◌↔◌, true, false, List, []}
use Rattle.element_terms.specs.declared.libraries.LibraryElement.{LibraryElement}
use Rattle.element_terms.specs.declared.libraries.ExportEdge.{ExportEdge}
use Rattle.namespaces.specs.declared.elements.Exported.{Exported}
use Rattle.namespaces.specs.Ambiguities.{is_ambiguous}
use Rattle.namespaces.specs.AmbiguousExports.{IsAmbiguousExport}
use Rattle.namespaces.specs.Namespaces.{AreNamespaces}

-- where the pairs are what the libraries export, they tell exactly which exports are ambiguous
abbrev pub AmbiguousExportsAreTold : Type 0
AmbiguousExportsAreTold = (libraries : List LibraryElement) (all : List (List Exported)) (library : LibraryElement) (earlier : List ExportEdge) (export : ExportEdge) → AreNamespaces libraries all → (is_ambiguous libraries all library earlier export ≡ true) ↔ IsAmbiguousExport libraries library earlier export

-- and so it doesn't matter in which order the pairs of each library stand, nor whether one stands there twice
abbrev pub OrderIsNoMatter : Type 0
OrderIsNoMatter = (libraries : List LibraryElement) (all others : List (List Exported)) (library : LibraryElement) (earlier : List ExportEdge) (export : ExportEdge) → AreNamespaces libraries all → AreNamespaces libraries others → is_ambiguous libraries all library earlier export ≡ is_ambiguous libraries others library earlier export

-- the first export of a library isn't ambiguous, whatever the libraries export
abbrev pub FirstIsNotAmbiguous : Type 0
FirstIsNotAmbiguous = (libraries : List LibraryElement) (all : List (List Exported)) (library : LibraryElement) (export : ExportEdge) → is_ambiguous libraries all library [] export ≡ false
