-- What is wrong with the files that directives name.
use Rattle.std.specs.Prelude.{ℕ, Bool, not, ◌||◌, List, [], ◌∷◌, ◌++◌, if◌then◌else◌, Option, Some, None}
use Rattle.dart_tree.specs.declared.places.Span.{Span}
use Rattle.directives.specs.declared.faults.LibraryFault.{LibraryFault}
use Rattle.directives.specs.declared.faults.LibraryFaultKind.{LibraryFaultKind}
use Rattle.directives.specs.declared.faults.LibraryFaultKind.TheVariants.{UriDoesNotExist, ImportOfPart, PartMismatch}
use Rattle.libraries.specs.declared.aims.Aim.{Aim}
use Rattle.libraries.specs.declared.aims.AimKind.{AimKind}
use Rattle.libraries.specs.declared.aims.AimKind.TheVariants.{Library, Import, Export, Part, PartOf, PartOfName}
use Rattle.libraries.specs.declared.heads.Head.{Head}
use Rattle.libraries.specs.Heads.{claims, is_library_at}

-- a URI names a file
abbrev pub missing_fault : Option ℕ → Option LibraryFaultKind
missing_fault None = Some UriDoesNotExist
missing_fault (Some place) = None

-- an import or an export names a library
abbrev pub import_fault : List Head → Option ℕ → Option LibraryFaultKind
import_fault heads None = Some UriDoesNotExist
import_fault heads (Some place) = if is_library_at heads place then None else Some ImportOfPart

-- a `part` of a library names a file that claims the library; that of a part names some file
abbrev pub part_fault : List Head → (own : Bool) → (library : ℕ) → Option ℕ → Option LibraryFaultKind
part_fault heads own library None = Some UriDoesNotExist
part_fault heads own library (Some place) = if not own || claims heads library place then None else Some PartMismatch

-- what is wrong with the file that a directive of this kind names, in the library's own file or in a part of it
abbrev pub link_fault : List Head → (own : Bool) → (library : ℕ) → Option ℕ → AimKind → Option LibraryFaultKind
link_fault heads own library target Library = None
link_fault heads own library target Import = import_fault heads target
link_fault heads own library target Export = import_fault heads target
link_fault heads own library target Part = part_fault heads own library target
link_fault heads own library target PartOf = missing_fault target
link_fault heads own library target PartOfName = None

-- it stands over the URI
abbrev pub fault_over : Span → Option LibraryFaultKind → List LibraryFault
fault_over span None = []
fault_over span (Some kind) = record { span = span; kind = kind } ∷ []

-- what is wrong with the files that directives name
abbrev pub link_faults : List Head → (own : Bool) → (library : ℕ) → List Aim → List LibraryFault
link_faults heads own library [] = []
link_faults heads own library (aim ∷ more) = fault_over aim.span (link_fault heads own library aim.target aim.kind) ++ link_faults heads own library more
