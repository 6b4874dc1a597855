-- Files with those that their directives name.
use Rattle.std.specs.Prelude.{◌≡◌, ℕ, ◌+◌, List, map, bytes_eq, position, if◌then◌else◌, Option, Some, None, option_map, option_and_then}
use Rattle.element_terms.specs.declared.libraries.LibraryElement.{LibraryElement}
use Rattle.load_files.specs.Paths.{lies_in}
use Rattle.load_files.specs.Tables.{Table}
use Rattle.load_files.specs.declared.packages.Package.{Package}
use Rattle.namespaces.specs.Links.{IsPlaceTable}
use Rattle.namespaces.specs.Namespaces.{AreNamespaces}
use Rattle.libraries.specs.declared.aims.Aim.{Aim}
use Rattle.libraries.specs.declared.files.SourceFile.{SourceFile}
use Rattle.libraries.specs.declared.heads.Head.{Head}
use Rattle.libraries.specs.Aims.{aims_in}
use Rattle.libraries.specs.Elements.{elements_from}
use Rattle.libraries.specs.Files.{paths_of}
use Rattle.libraries.specs.Heads.{head_of, is_library_at}
use Rattle.check_files.specs.Sources.{all_own_faults, sources_of}
use Rattle.check_files.specs.declared.links.Linked.{Linked}
use Rattle.check_files.specs.declared.sources.ReadFiles.{ReadFiles}

-- what the directives of each file are about
abbrev pub aims_of : List Package → List SourceFile → List (List Aim)
aims_of packages sources = map (aims_in packages (paths_of sources)) sources

-- which files are libraries, and which libraries parts claim
abbrev pub heads_of : List Package → List SourceFile → List Head
heads_of packages sources = map head_of (aims_of packages sources)

-- what all libraries declare and export, by their names
abbrev pub elements_of : List SourceFile → List Head → List (List Aim) → List LibraryElement
elements_of sources heads all = elements_from sources heads all 0 sources

-- what is known of files that were read
pub record IsLinkedFrom (packages : List Package) (read : ReadFiles) (linked : Linked) : Type 0 where
  pub sources : linked.sources.items ≡ read.sources.items
  pub faults : linked.faults.items ≡ read.faults.items
  pub aims : linked.aims.items ≡ aims_of packages read.sources.items
  pub heads : linked.heads.items ≡ heads_of packages read.sources.items
  pub elements : linked.elements.items ≡ elements_of linked.sources.items linked.heads.items linked.aims.items
  pub spaces : AreNamespaces linked.elements.items linked.spaces.items
  pub places : IsPlaceTable linked.elements.items linked.places.places

-- what is known of the files of a table, `dart:core` before them
pub record AreLinked (packages : List Package) (table : Table) (linked : Linked) : Type 0 where
  pub sources : linked.sources.items ≡ sources_of table
  pub faults : linked.faults.items ≡ all_own_faults table
  pub aims : linked.aims.items ≡ aims_of packages (sources_of table)
  pub heads : linked.heads.items ≡ heads_of packages (sources_of table)
  pub elements : linked.elements.items ≡ elements_of linked.sources.items linked.heads.items linked.aims.items
  pub spaces : AreNamespaces linked.elements.items linked.spaces.items
  pub places : IsPlaceTable linked.elements.items linked.places.places

-- the place of a path among all files
abbrev pub place_in : (path : List ℕ) → Table → Option ℕ
place_in path table = option_map (λ place. place + 1) (position (λ file. bytes_eq file.0 path) table)

-- a place, if a library is there
abbrev pub if_library : List Head → ℕ → Option ℕ
if_library heads place = if is_library_at heads place then Some place else None

-- the place of the library of a path in a folder; nothing where the folder has no such file, or where it is a part
abbrev pub library_in : (folder path : List ℕ) → Table → List Head → Option ℕ
library_in folder path table heads = if lies_in folder path then option_and_then (if_library heads) (place_in path table) else None
