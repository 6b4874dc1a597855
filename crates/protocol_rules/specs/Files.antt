-- What the files of a session contain, and what is wrong with them.
use Rattle.std.specs.Prelude.{◌≡◌, ℕ, Bool, not, ◌&&◌, ◌||◌, List, [], ◌++◌, map, count_by, bytes_eq, find, Option, None, Some, is_some, option_map}
use Rattle.std.specs.List.{filter, list_any}
use Rattle.std.specs.Option.{option_map_or}
use Rattle.judgement.specs.declared.fault.Fault.{Fault}
use Rattle.load_files.specs.Paths.{lies_in, is_library}
use Rattle.load_files.specs.Tables.{Table, contents_at}
use Rattle.load_files.specs.declared.contents.FileContents.{FileContents}
use Rattle.load_files.specs.declared.contents.FileContents.TheVariants.{Text}
use Rattle.load_files.specs.declared.roots.Roots.{Roots}
use Rattle.overlays.specs.Tables.{PathsAndTexts, text_in}
use Rattle.check_files.specs.Contents.{read_as}
use Rattle.check_files.specs.Reports.{AreDiagnostics}
use Rattle.protocol_rules.specs.State.{State}

-- a text that the client has given stands before what the store had
abbrev pub in_front : Option (List ℕ) → Option FileContents → Option FileContents
in_front None file = file
in_front (Some text) file = Some (Text text)

-- what a path currently has: its overlay, or else what the store had there: a text, or one of two marks
abbrev pub current : State → List ℕ → Option FileContents
current s path = in_front (text_in path s.overlays) (contents_at path s.snapshot)

-- a file, or the text that the client has given of it
abbrev pub now_in : Option (List ℕ) → FileContents → FileContents
now_in None contents = contents
now_in (Some text) contents = Text text

-- a file of the store as it is now
abbrev pub overlaid : PathsAndTexts → (List ℕ × FileContents) → (List ℕ × FileContents)
overlaid overlays file = (file.0, now_in (text_in file.0 overlays) file.1)

-- a text that the client has given, as a file
abbrev pub given_file : (List ℕ × List ℕ) → (List ℕ × FileContents)
given_file overlay = (overlay.0, Text overlay.1)

-- it is the text of a file that the store hadn't
abbrev pub is_new : Table → (List ℕ × List ℕ) → Bool
is_new snapshot overlay = not (is_some (contents_at overlay.0 snapshot))

-- all files as they now are: those of the store, and behind them the others that the client has given
abbrev pub files_of : State → Table
files_of s = map (overlaid s.overlays) s.snapshot ++ map given_file (filter (is_new s.snapshot) s.overlays)

-- what the first of these files with a path contains
abbrev pub contents_among : (path : List ℕ) → Table → Option FileContents
contents_among path files = option_map (λ file. file.1) (find (λ file. bytes_eq path file.0) files)

-- a path is, or lies under, an included path
abbrev pub is_included : Roots → List ℕ → Bool
is_included roots path = list_any (λ root. lies_in root path) roots.included

-- a file is analyzed where its path ends in `.dart` and it has an overlay, or where it is in the snapshot and under an included path
abbrev pub is_analyzed : State → List ℕ → Bool
is_analyzed s path =
    (is_library path && is_some (text_in path s.overlays)) || (is_some (contents_at path s.snapshot) && is_included s.roots path)

-- how many of all files are analyzed
abbrev pub analyzed_count : State → ℕ
analyzed_count s = count_by (λ file. is_analyzed s file.0) (files_of s)

-- the text of a path, as it is read now
abbrev pub text_of : State → List ℕ → List ℕ
text_of s path = option_map_or read_as (current s path) []

-- the diagnostics of a file that has this now; there are none where it has nothing
abbrev pub AreDiagnosticsBy : State → (path : List ℕ) → Option FileContents → List Fault → Type 0
AreDiagnosticsBy s path None faults = faults ≡ []
AreDiagnosticsBy s path (Some contents) faults = AreDiagnostics s.roots.packages (files_of s) path contents faults

-- the diagnostics of a file, over what all paths have now
abbrev pub AreDiagnosticsOf : State → List ℕ → List Fault → Type 0
AreDiagnosticsOf s path faults = AreDiagnosticsBy s path (current s path) faults
