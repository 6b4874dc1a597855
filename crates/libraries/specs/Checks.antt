-- What is wrong with the directives and the declared names of libraries.
use Rattle.std.specs.Prelude.{ℕ, ◌==◌, List, [], ◌∷◌, ◌++◌, if◌then◌else◌, slice_get, slice_index_or, Option, Some, None}
use Rattle.directives.specs.declared.directive.Directive.{Directive}
use Rattle.directives.specs.declared.faults.LibraryFault.{LibraryFault}
use Rattle.directives.specs.UnitFaults.{homeless_faults, unit_faults}
use Rattle.libraries.specs.declared.aims.Aim.{Aim}
use Rattle.libraries.specs.declared.check.FileFaults.{FileFaults}
use Rattle.libraries.specs.declared.duplicates.Taken.{Taken}
use Rattle.libraries.specs.declared.files.SourceFile.{SourceFile}
use Rattle.libraries.specs.declared.heads.Head.{Head}
use Rattle.libraries.specs.declared.parts.Home.{Home}
use Rattle.libraries.specs.declared.parts.Home.TheVariants as home
use Rattle.libraries.specs.Duplicates.{duplicates_in, no_names, taken_after, with_prefixes}
use Rattle.libraries.specs.LinkFaults.{link_faults}
use Rattle.libraries.specs.Parts.{home_of, units_of}

-- what the directives of the file at a place are about
abbrev pub aims_at : List (List Aim) → ℕ → List Aim
aims_at all place = slice_index_or all place []

-- the directives of a file, if there is one
abbrev pub directives_at : Option SourceFile → List Directive
directives_at None = []
directives_at (Some file) = file.outline.directives

-- what is wrong with a file of a library: with its directives alone, with the files that they name, and with its declared names behind those of the files before it
abbrev pub faults_of_unit : List Head → List Aim → (library place : ℕ) → Taken → Option SourceFile → List FileFaults
faults_of_unit heads aims library place taken None = []
faults_of_unit heads aims library place taken (Some file) =
    record { file = place; faults = unit_faults file.outline ++ link_faults heads (place == library) library aims ++ duplicates_in taken file.outline.declared } ∷ []

-- the names that are taken behind a file
abbrev pub taken_by_unit : Taken → Option SourceFile → Taken
taken_by_unit taken None = taken
taken_by_unit taken (Some file) = taken_after taken file.outline.declared

-- what is wrong with the files of a library, one after another
abbrev pub faults_of_units : List SourceFile → List Head → List (List Aim) → (library : ℕ) → Taken → (places : List ℕ) → List FileFaults
faults_of_units files heads all library taken [] = []
faults_of_units files heads all library taken (place ∷ places) =
    faults_of_unit heads (aims_at all place) library place taken (slice_get files place) ++ faults_of_units files heads all library (taken_by_unit taken (slice_get files place)) places

-- what is wrong with the files of the library at a place, whose prefixes come before all its declarations
unfoldable pub library_faults : List SourceFile → List Head → List (List Aim) → (library : ℕ) → List FileFaults
library_faults files heads all library =
    faults_of_units files heads all library (with_prefixes no_names (directives_at (slice_get files library))) (units_of heads library (aims_at all library))

-- what of it is wrong with the file at a place
abbrev pub faults_for : (place : ℕ) → List FileFaults → List LibraryFault
faults_for place [] = []
faults_for place (one ∷ more) = (if one.file == place then one.faults else []) ++ faults_for place more

-- what is wrong with a part that belongs to no library
abbrev pub homeless_at : Option SourceFile → List LibraryFault
homeless_at None = []
homeless_at (Some file) = homeless_faults file.outline

-- what is wrong with a file that is that among the libraries
abbrev pub faults_by : List SourceFile → List Head → List (List Aim) → (place : ℕ) → Home → List LibraryFault
faults_by files heads all place home.Homeless = homeless_at (slice_get files place)
faults_by files heads all place home.Library = faults_for place (library_faults files heads all place)
faults_by files heads all place (home.PartOf library) = faults_for place (library_faults files heads all library)

-- what is wrong with the directives and the declared names of the file at a place
abbrev pub file_faults : List SourceFile → List Head → List (List Aim) → (place : ℕ) → List LibraryFault
file_faults files heads all place = faults_by files heads all place (home_of heads all place)
