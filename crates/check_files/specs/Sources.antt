-- The files of a table, each by what it says to others and by what is wrong with its own text.
use Rattle.std.specs.Prelude.{◌≡◌, ℕ, Bool, not, ◌&&◌, List, [], ◌∷◌, ◌++◌, fold, map, nat_eq, if◌then◌else◌}
use Rattle.std.specs.List.{filter, list_any}
use denote.Enum.Bare.{sameb}
use Rattle.dart_scan.specs.Scanned.{words_of}
use Rattle.judgement.specs.declared.code.DiagnosticCode.{DiagnosticCode}
use Rattle.judgement.specs.declared.code.DiagnosticCode.TheVariants as code
use Rattle.judgement.specs.contracts.code.DiagnosticCode as codes
use Rattle.judgement.specs.declared.fault.Fault.{Fault}
use Rattle.check_library.specs.Units.{unit_of_text}
use Rattle.directives.specs.declared.directive.Directive.{Directive}
use Rattle.directives.specs.declared.outline.Outline.{Outline}
use Rattle.directives.specs.Outlines.{outline_of}
use Rattle.load_files.specs.Tables.{Table}
use Rattle.load_files.specs.declared.contents.FileContents.{FileContents}
use Rattle.libraries.specs.declared.files.SourceFile.{SourceFile}
use Rattle.libraries.specs.Naming.{core_path}
use Rattle.check_files.specs.Contents.{faults_of, read_as}
use Rattle.check_files.specs.declared.sources.ReadFiles.{ReadFiles}

-- the outline of a text
abbrev pub outline_of_text : List ℕ → Outline
outline_of_text text = outline_of (words_of text) (unit_of_text text)

-- a file as others see it, by what its text says to them; a file that holds no text is read as the empty one
abbrev pub source_of : (List ℕ × FileContents) → SourceFile
source_of file = record { path = file.0; outline = outline_of_text (read_as file.1) }

-- an outline that says nothing
abbrev pub no_outline : Outline
no_outline = record { directives = []; misplaced = []; declared = [] }

-- `dart:core`, which has no file
abbrev pub core_source : SourceFile
core_source = record { path = core_path; outline = no_outline }

-- all files as others see them: `dart:core` stands at the first place, and then the files of the table
abbrev pub sources_of : Table → List SourceFile
sources_of table = core_source ∷ map source_of table

-- these offsets and one more, unless it is among them
abbrev pub with_start : List ℕ → Directive → List ℕ
with_start starts directive = if list_any (nat_eq directive.span.start) starts then starts else starts ++ directive.span.start ∷ []

-- where directives start
abbrev pub starts_of : List Directive → List ℕ
starts_of directives = fold with_start [] directives

-- that a form isn't checked
abbrev pub is_not_built : DiagnosticCode → Bool
is_not_built c = sameb codes.the_type c code.NotBuilt

-- it is said of a directive: of a text alone nothing more is known of it
abbrev pub is_of_directive : List ℕ → Fault → Bool
is_of_directive starts fault = is_not_built fault.code && list_any (nat_eq fault.span.start) starts

-- what isn't said of those that start there
abbrev pub but_those : (starts : List ℕ) → List Fault → List Fault
but_those starts faults = filter (λ fault. not (is_of_directive starts fault)) faults

-- what remains where directives are checked
abbrev pub but_directives : List Directive → List Fault → List Fault
but_directives directives faults = but_those (starts_of directives) faults

-- what is wrong with what a file contains, but that its directives aren't checked: they are, with the files that they name
abbrev pub own_faults : FileContents → List Fault
own_faults contents = but_directives (outline_of_text (read_as contents)).directives (faults_of contents)

-- what is wrong with each file by itself: nothing with `dart:core`, and then with the files of the table
abbrev pub all_own_faults : Table → List (List Fault)
all_own_faults table = [] ∷ map (λ file. own_faults file.1) table

-- these are the files of a table as they were read
pub record AreRead (table : Table) (read : ReadFiles) : Type 0 where
  pub sources : read.sources.items ≡ sources_of table
  pub faults : read.faults.items ≡ all_own_faults table
