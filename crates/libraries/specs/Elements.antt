-- Libraries as elements, by the names that they declare and export.
use Rattle.std.specs.Prelude.{ℕ, ◌+◌, List, [], ◌∷◌, ◌++◌, drop, map, if◌then◌else◌, slice_get, Option, Some, None}
use Rattle.element_terms.specs.declared.combinators.Combinator.{Combinator}
use Rattle.element_terms.specs.declared.declarations.Declared.{Declared}
use Rattle.element_terms.specs.declared.declarations.DeclaredKind.{DeclaredKind}
use Rattle.element_terms.specs.declared.declarations.DeclaredKind.TheVariants.{Function, Getter, Setter, Variable, FinalVariable, Class, Mixin, Typedef}
use Rattle.element_terms.specs.declared.libraries.ExportEdge.{ExportEdge}
use Rattle.element_terms.specs.declared.libraries.LibraryElement.{LibraryElement}
use Rattle.element_terms.specs.NameTexts.{setter_of}
use Rattle.directives.specs.declared.declared.DeclaredName.{DeclaredName}
use Rattle.directives.specs.declared.directive.Directive.{Directive}
use Rattle.directives.specs.declared.directive.DirectiveForm.{DirectiveForm}
use Rattle.directives.specs.declared.directive.DirectiveForm.TheVariants as form
use Rattle.libraries.specs.declared.aims.Aim.{Aim}
use Rattle.libraries.specs.declared.files.SourceFile.{SourceFile}
use Rattle.libraries.specs.declared.heads.Head.{Head}
use Rattle.libraries.specs.Checks.{aims_at}
use Rattle.libraries.specs.Heads.{is_library_at}
use Rattle.libraries.specs.Parts.{units_of}

-- the name that a declaration has among those of its library: a setter's ends in `=`
abbrev pub name_of : DeclaredKind → List ℕ → List ℕ
name_of Setter name = setter_of name
name_of Function name = name
name_of Getter name = name
name_of Variable name = name
name_of FinalVariable name = name
name_of Class name = name
name_of Mixin name = name
name_of Typedef name = name

-- a declared name as a declaration of its library
abbrev pub declared_of : DeclaredName → Declared
declared_of d = record { name = name_of d.kind d.name; kind = d.kind }

-- the names that a file declares, if there is one
abbrev pub names_at : Option SourceFile → List DeclaredName
names_at None = []
names_at (Some file) = file.outline.declared

-- what the files at these places declare
abbrev pub declarations_of : List SourceFile → (places : List ℕ) → List Declared
declarations_of files [] = []
declarations_of files (place ∷ places) = map declared_of (names_at (slice_get files place)) ++ declarations_of files places

-- the combinators of an export
abbrev pub exported : DirectiveForm → Option (List Combinator)
exported (form.Export uri combinators) = Some combinators
exported form.Library = None
exported (form.Import uri prefix combinators) = None
exported (form.Part uri) = None
exported (form.PartOf uri) = None
exported (form.PartOfName name) = None

-- a place, if the file there is a library
abbrev pub if_library : List Head → Option ℕ → Option ℕ
if_library heads None = None
if_library heads (Some place) = if is_library_at heads place then Some place else None

-- the library that a directive names, of which it is known what it is about
abbrev pub library_named : List Head → Option Aim → Option ℕ
library_named heads None = None
library_named heads (Some aim) = if_library heads aim.target

-- the export of a library
abbrev pub edge_to : Option (List Combinator) → Option ℕ → List ExportEdge
edge_to None place = []
edge_to (Some combinators) None = []
edge_to (Some combinators) (Some place) = record { library = record { 0 = place }; combinators = combinators } ∷ []

-- the export that a directive is
abbrev pub edge_of : List Head → DirectiveForm → Option Aim → List ExportEdge
edge_of heads said aim = edge_to (exported said) (library_named heads aim)

-- the exports among directives, of which it is known what each is about
abbrev pub edges_in : List Head → List Directive → List Aim → List ExportEdge
edges_in heads [] aims = []
edges_in heads (directive ∷ more) aims = edge_of heads directive.form (slice_get aims 0) ++ edges_in heads more (drop 1 aims)

-- the element of the file at a place: what it and its parts declare, and its exports; a part is an element without names
abbrev pub element_of : List SourceFile → List Head → List Aim → (place : ℕ) → SourceFile → LibraryElement
element_of files heads aims place file = record {
  id = record { 0 = place };
  path = file.path;
  declared = if is_library_at heads place then declarations_of files (units_of heads place aims) else [];
  exports = if is_library_at heads place then edges_in heads file.outline.directives aims else [];
}

-- those of files, the first of which stands at a place
abbrev pub elements_from : List SourceFile → List Head → List (List Aim) → (place : ℕ) → List SourceFile → List LibraryElement
elements_from files heads all place [] = []
elements_from files heads all place (file ∷ more) = element_of files heads (aims_at all place) place file ∷ elements_from files heads all (place + 1) more
