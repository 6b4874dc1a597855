-- What is wrong with files, and with the libraries that a library reaches.
use Rattle.std.specs.Prelude.{◌≡◌, ℕ, List, [], ◌++◌, length, map, slice_get, slice_index_or, Option, Some, None}
use Rattle.std.specs.List.{flat_map}
use Rattle.judgement.specs.declared.fault.Fault.{Fault}
use Rattle.element_terms.specs.declared.libraries.LibraryElement.{LibraryElement}
use Rattle.library_graph.specs.Cycles.{AreReached}
use Rattle.load_files.specs.Tables.{Table}
use Rattle.load_files.specs.declared.contents.FileContents.{FileContents}
use Rattle.load_files.specs.declared.packages.Package.{Package}
use Rattle.namespaces.specs.declared.elements.Exported.{Exported}
use Rattle.namespaces.specs.Namespaces.{AreNamespaces}
use Rattle.libraries.specs.declared.aims.Aim.{Aim}
use Rattle.libraries.specs.declared.check.FileFaults.{FileFaults}
use Rattle.libraries.specs.declared.files.SourceFile.{SourceFile}
use Rattle.libraries.specs.declared.heads.Head.{Head}
use Rattle.libraries.specs.declared.parts.Home.{Home}
use Rattle.libraries.specs.declared.parts.Home.TheVariants as home
use Rattle.libraries.specs.Ambiguous.{ambiguous_faults}
use Rattle.libraries.specs.Checks.{aims_at, homeless_at, library_faults}
use Rattle.libraries.specs.Graph.{edges_from}
use Rattle.libraries.specs.Parts.{home_of}
use Rattle.check_library.specs.Order.{sorted_faults}
use Rattle.check_files.specs.declared.findings.Finding.{Finding}
use Rattle.check_files.specs.Contents.{bare_faults_of}
use Rattle.check_files.specs.Findings.{fault_of, faults_in, found_in, sorted_findings}
use Rattle.check_files.specs.Links.{aims_of, elements_of, heads_of, place_in}
use Rattle.check_files.specs.Sources.{all_own_faults, sources_of}

-- what is wrong with the text of the file at a place
abbrev pub own_at : List (List Fault) → (place : ℕ) → List Fault
own_at own place = slice_index_or own place []

-- what is found in a file of a library: in its text, and in its directives and declared names
abbrev pub findings_in_file : List (List Fault) → FileFaults → List Finding
findings_in_file own one = map (found_in one.file) (own_at own one.file) ++ map (found_in one.file) (map fault_of one.faults)

-- which exports of a library are ambiguous, if there is one
abbrev pub ambiguous_in : List Head → List LibraryElement → List (List Exported) → List Aim → (library : ℕ) → Option LibraryElement → List Finding
ambiguous_in heads elements spaces aims library None = []
ambiguous_in heads elements spaces aims library (Some element) = map (found_in library) (map fault_of (ambiguous_faults heads elements spaces element aims))

-- what is found in the library at a place: in its own file and its parts, and in its exports
abbrev pub findings_in_library : List SourceFile → List Head → List (List Aim) → List (List Fault) → List LibraryElement → List (List Exported) → (library : ℕ) → List Finding
findings_in_library sources heads all own elements spaces library =
    flat_map (findings_in_file own) (library_faults sources heads all library)
    ++ ambiguous_in heads elements spaces (aims_at all library) library (slice_get elements library)

-- that of several libraries, in the order in which it is reported
abbrev pub findings_in : List SourceFile → List Head → List (List Aim) → List (List Fault) → List LibraryElement → List (List Exported) → (libraries : List ℕ) → List Finding
findings_in sources heads all own elements spaces libraries =
    sorted_findings (flat_map (findings_in_library sources heads all own elements spaces) libraries)

-- what is wrong with a part that belongs to no library: with its text alone, and with its `part of`
abbrev pub homeless_faults : FileContents → Option SourceFile → List Fault
homeless_faults contents source = sorted_faults (bare_faults_of contents ++ map fault_of (homeless_at source))

-- what of the findings of a library is wrong with the file at a place
abbrev pub faults_of_library : List SourceFile → List Head → List (List Aim) → List (List Fault) → List LibraryElement → List (List Exported) → (place library : ℕ) → List Fault
faults_of_library sources heads all own elements spaces place library =
    faults_in place (sorted_findings (findings_in_library sources heads all own elements spaces library))

-- what is wrong with the file at a place, which is that among the libraries
abbrev pub faults_at : List SourceFile → List Head → List (List Aim) → List (List Fault) → List LibraryElement → List (List Exported) → FileContents → (place : ℕ) → Home → List Fault
faults_at sources heads all own elements spaces contents place home.Homeless = homeless_faults contents (slice_get sources place)
faults_at sources heads all own elements spaces contents place home.Library = faults_of_library sources heads all own elements spaces place place
faults_at sources heads all own elements spaces contents place (home.PartOf library) = faults_of_library sources heads all own elements spaces place library

-- what is wrong with the file at a place, if there is one
abbrev pub faults_at_place : List SourceFile → List Head → List (List Aim) → List (List Fault) → List LibraryElement → List (List Exported) → FileContents → Option ℕ → List Fault
faults_at_place sources heads all own elements spaces contents None = []
faults_at_place sources heads all own elements spaces contents (Some place) = faults_at sources heads all own elements spaces contents place (home_of heads all place)

-- what the libraries of a table declare and export
abbrev pub table_elements : List Package → Table → List LibraryElement
table_elements packages table = elements_of (sources_of table) (heads_of packages (sources_of table)) (aims_of packages (sources_of table))

-- The diagnostics of a file among those of a table: what the rules say of its text, its directives and declared names and its exports, from nothing, in the order in which it is reported; a path that the table hasn't has none.
pub record AreDiagnostics (packages : List Package) (table : Table) (path : List ℕ) (contents : FileContents) (faults : List Fault) : Type 0 where
  pub spaces : List (List Exported)
  pub exported : AreNamespaces (table_elements packages table) spaces
  pub found : faults ≡ faults_at_place (sources_of table) (heads_of packages (sources_of table)) (aims_of packages (sources_of table)) (all_own_faults table) (table_elements packages table) spaces contents (place_in path table)

-- The findings in all libraries that these directives reach from the library at a place, itself too.
pub record AreFindings (sources : List SourceFile) (heads : List Head) (all : List (List Aim)) (own : List (List Fault)) (elements : List LibraryElement) (spaces : List (List Exported)) (place : ℕ) (findings : List Finding) : Type 0 where
  pub libraries : List ℕ
  pub reached : AreReached (edges_from heads (length sources) 0 all) place libraries
  pub found : findings ≡ findings_in sources heads all own elements spaces libraries

-- what is found in all libraries that the library at a place reaches among the files of a table
pub record AreFoundFrom (packages : List Package) (table : Table) (place : ℕ) (findings : List Finding) : Type 0 where
  pub spaces : List (List Exported)
  pub exported : AreNamespaces (table_elements packages table) spaces
  pub found : AreFindings (sources_of table) (heads_of packages (sources_of table)) (aims_of packages (sources_of table)) (all_own_faults table) (table_elements packages table) spaces place findings
