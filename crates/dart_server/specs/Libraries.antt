-- What a check or a run of the library of a file writes, and how it ends.
use Rattle.std.specs.Prelude.{◌≡◌, ◌≢◌, ℕ, Bool, false, List, [], ◌∷◌, ◌++◌, find, is_some, slice_get, Option, None, Some, Result, Ok, Err, codes}
use Rattle.std.specs.Option.{ForSome}
use Rattle.dart_uri.specs.References.{resolved}
use Rattle.fault_io.specs.Paths.{root}
use Rattle.fault_io.specs.Stored.{Stored, bytes_at}
use Rattle.load_files.specs.Loads.{loaded}
use Rattle.load_files.specs.Tables.{Table}
use Rattle.load_files.specs.declared.packages.Package.{Package}
use Rattle.load_files.specs.declared.refusal.LoadRefusal.{LoadRefusal}
use Rattle.load_files.specs.declared.refusal.LoadRefusal.TheVariants as refusal
use Rattle.load_files.specs.declared.roots.Roots.{Roots}
use Rattle.packages_file.specs.Stored.{packages_at}
use Rattle.element_terms.specs.declared.libraries.LibraryElement.{LibraryElement}
use Rattle.element_terms.specs.Declarations.{declares}
use Rattle.directives.specs.declared.directive.Directive.{Directive}
use Rattle.check_files.specs.declared.findings.Finding.{Finding}
use Rattle.check_files.specs.Lines.{lines_of, text_at, texts_of}
use Rattle.check_files.specs.Links.{heads_of, library_in}
use Rattle.check_files.specs.Reports.{AreFoundFrom, table_elements}
use Rattle.check_files.specs.Sources.{outline_of_text, sources_of}
use Rattle.dart_server.specs.declared.status.Status.{Status}
use Rattle.dart_server.specs.declared.status.Status.TheVariants.{Done, Errors, Refused, Memory, StepsSpent, WriteFault, FilesFault, Rejected}
use Rattle.dart_server.specs.declared.task.Task.{Task}
use Rattle.dart_server.specs.declared.task.Task.TheVariants.{Check, Run}
use Rattle.dart_server.specs.Run.{RunGives}
use Rattle.dart_server.specs.Writes.{IsEnd, Says}

-- what is written where the packages file is refused
abbrev pub packages_line : List ℕ
packages_line = codes "dart_serve: packages refused" ++ 10 ∷ []

-- what is written where there is no library of the name
abbrev pub no_library_line : List ℕ
no_library_line = codes "dart_serve: no such library" ++ 10 ∷ []

-- what is written where the files that are read pass a limit
abbrev pub limit_line : List ℕ
limit_line = codes "dart_serve: limit" ++ 10 ∷ []

-- the folder above; all else stands in `/`
abbrev pub above : Option (List ℕ) → List ℕ
above (Some folder) = folder
above None = root

-- the folder whose files are read: the one that is named, or else the one in which the file stands
abbrev pub folder_for : (file : List ℕ) → (named : Option (List ℕ)) → List ℕ
folder_for file (Some folder) = folder
folder_for file None = above (resolved file (codes ".."))

-- the roots of a check or a run: that folder and the packages
abbrev pub roots_for : (folder : List ℕ) → List Package → Roots
roots_for folder packages = record { included = folder ∷ []; excluded = []; packages = packages }

-- the packages: those that the packages file lists, if one is named; nothing where it is refused
abbrev pub packages_for : Option (List ℕ) → Stored → Option (List Package)
packages_for None stored = Some []
packages_for (Some file) stored = packages_at file (bytes_at stored file)

-- a library declares `main`, in its own file or in a part
abbrev pub has_main : Option LibraryElement → Bool
has_main None = false
has_main (Some element) = is_some (find (λ d. declares d (codes "main")) element.declared)

-- the text of the file at a place
abbrev pub text_in : Table → (place : ℕ) → List ℕ
text_in table place = (text_at (texts_of table) place).1

-- the directives of the file at a place, which runs don't know yet
abbrev pub directives_in : Table → (place : ℕ) → List Directive
directives_in table place = (outline_of_text (text_in table place)).directives

-- the output and the status where nothing is wrong with the library at a place and with those that it reaches, by what of its file runs don't know yet: a check has nothing to say
abbrev pub ClearGives : {X : Type 0} → (unknown : List X) → Task → List Package → Table → (place : ℕ) → (output : List ℕ) → Status → Type 0
ClearGives unknown Check packages table place output status = Says [] Done output status
ClearGives unknown (Run steps) packages table place output status =
    RunGives (text_in table place) (has_main (slice_get (table_elements packages table) place)) steps unknown output status

-- those by what is found in all libraries that it reaches: the lines of that, if there is any
abbrev pub FoundGive : Task → List Package → Table → (place : ℕ) → List Finding → (output : List ℕ) → Status → Type 0
FoundGive task packages table place [] output status = ClearGives (directives_in table place) task packages table place output status
FoundGive task packages table place (finding ∷ findings) output status = Says (lines_of table (finding ∷ findings)) Errors output status

-- those of the library at a place among the files of a table
pub record LibraryGives (task : Task) (packages : List Package) (table : Table) (place : ℕ) (output : List ℕ) (status : Status) : Type 0 where
  pub findings : List Finding
  pub found : AreFoundFrom packages table place findings
  pub gives : FoundGive task packages table place findings output status

-- those of a library, if there is one
abbrev pub PlaceGives : Task → List Package → Table → (place : Option ℕ) → (output : List ℕ) → Status → Type 0
PlaceGives task packages table None output status = Says no_library_line Refused output status
PlaceGives task packages table (Some place) output status = LibraryGives task packages table place output status

-- those of the library of a file among the files of a table
abbrev pub TableGives : Task → (file folder : List ℕ) → List Package → Table → (output : List ℕ) → Status → Type 0
TableGives task file folder packages table output status =
    PlaceGives task packages table (library_in folder file table (heads_of packages (sources_of table))) output status

-- those by what the files of the folder come to; a fault of the store and want of memory are told by their statuses
abbrev pub FilesGive : Task → (file folder : List ℕ) → List Package → Result Table LoadRefusal → (output : List ℕ) → Status → Type 0
FilesGive task file folder packages (Ok table) output status = TableGives task file folder packages table output status
FilesGive task file folder packages (Err (refusal.TooManyFiles count)) output status = Says limit_line Refused output status
FilesGive task file folder packages (Err (refusal.TooDeep depth)) output status = Says limit_line Refused output status
FilesGive task file folder packages (Err (refusal.TooMuch bytes)) output status = Says limit_line Refused output status
FilesGive task file folder packages (Err refusal.FilesFault) output status = ⊥
FilesGive task file folder packages (Err refusal.Memory) output status = ⊥

-- what is written over these packages, and the status: those of the files as the store gives them; nothing, where the store fails
pub record OverPackages (task : Task) (file folder : List ℕ) (packages : List Package) (told : Option Stored) (old new : Option (List ℕ)) (status : Status) : Type 0 where
  pub answer : Result Table LoadRefusal
  pub answer_is : ForSome told (λ stored. answer ≡ loaded stored (roots_for folder packages) [])
  pub fails : status ≡ FilesFault → new ≡ old
  pub ends : status ≢ FilesFault → IsEnd (FilesGive task file folder packages answer) old new status

-- without packages: their line is written, or nothing where the packages file couldn't be read
pub record OverNone (old new : Option (List ℕ)) (status : Status) : Type 0 where
  pub fails : status ≡ FilesFault → new ≡ old
  pub ends : status ≢ FilesFault → IsEnd (Says packages_line Refused) old new status

-- by the packages that are listed, or that none are
abbrev pub Ends : Task → (file folder : List ℕ) → Option (List Package) → (told : Option Stored) → (old new : Option (List ℕ)) → Status → Type 0
Ends task file folder None told old new status = OverNone old new status
Ends task file folder (Some packages) told old new status = OverPackages task file folder packages told old new status

-- Under `check` and `run`: the packages are those of the packages file, if one is named, and what is written is what the library of the file gives among the files as the store gives them.
pub record LibraryOutput (task : Task) (file : List ℕ) (named packages : Option (List ℕ)) (told : Option Stored) (old new : Option (List ℕ)) (status : Status) : Type 0 where
  pub listed : Option (List Package)
  pub listed_are : ForSome told (λ stored. listed ≡ packages_for packages stored)
  pub ends : Ends task file (folder_for file named) listed told old new status

-- a program may be run
abbrev pub Runs : Task → Type 0
Runs Check = ⊥
Runs (Run steps) = Unit {0}

-- the statuses that a check and a run may have
abbrev pub MayEndIn : Task → Status → Type 0
MayEndIn task Done = Unit {0}
MayEndIn task Errors = Unit {0}
MayEndIn task Refused = Unit {0}
MayEndIn task Memory = Unit {0}
MayEndIn task WriteFault = Unit {0}
MayEndIn task FilesFault = Unit {0}
MayEndIn task StepsSpent = Runs task
MayEndIn task Rejected = Runs task
MayEndIn task _ = ⊥
