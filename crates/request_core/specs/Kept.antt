-- What a checker may tell of its earlier work: three tables, of what it parsed, linked and checked last of each path. What it then needs to answer is what has changed since.
use Rattle.std.specs.Prelude.{◌≡◌, ◌⊎◌, ℕ, zero, suc, ◌+◌, Bool, true, not, ◌&&◌, T, List, [], ◌∷◌, ◌++◌, length, map, bytes_eq, nat_eq, slice_index_or, if◌then◌else◌, Option, None, Some, is_some, option_map, Contains}
use Rattle.std.specs.List.{filter, flat_map, list_any}
use Rattle.std.specs.Option.{option_map_or}
use Rattle.load_files.specs.declared.contents.FileContents.{FileContents}
use Rattle.load_files.specs.declared.contents.FileContents.TheVariants.{Text, NotUtf8, TooLong}
use Rattle.work_counts.specs.Counts.{Counts, raised_by}
use Rattle.library_graph.specs.declared.edges.Edge.{Edge}
use Rattle.library_graph.specs.Cycles.{AreCycles, AreReached}
use Rattle.libraries.specs.declared.aims.Aim.{Aim}
use Rattle.libraries.specs.declared.files.SourceFile.{SourceFile}
use Rattle.libraries.specs.declared.heads.Head.{Head}
use Rattle.libraries.specs.declared.parts.Home.{Home}
use Rattle.libraries.specs.declared.parts.Home.TheVariants as home
use Rattle.libraries.specs.Checks.{aims_at}
use Rattle.libraries.specs.Graph.{edges_from}
use Rattle.libraries.specs.Parts.{home_of, units_of}
use Rattle.check_files.specs.Contents.{read_as}
use Rattle.check_files.specs.Links.{aims_of, heads_of, place_in}
use Rattle.check_files.specs.Sources.{sources_of}
use Rattle.protocol_rules.specs.Files.{current, files_of}
use Rattle.protocol_rules.specs.State.{State}

abbrev pub Path : Type 0
Path = List ℕ

-- what of a file is compared: its text, or which of the two marks stands for one. How many bytes a file without a text has is no part of it
pub data TextOrMark : Type 0 where
  the_text : List ℕ → TextOrMark
  not_utf8 : TextOrMark
  too_long : TextOrMark

abbrev pub text_or_mark : FileContents → TextOrMark
text_or_mark (Text text) = the_text text
text_or_mark (NotUtf8 bytes) = not_utf8
text_or_mark (TooLong bytes) = too_long

-- what the files that a library reads let others see, by their paths
abbrev pub Key : Type 0
Key = List (Path × List ℕ)

-- a library as it was linked: the libraries that it was linked with, and what it read
pub record Linked : Type 0 where
  pub cycle : List Path
  pub key : Key

-- a library as it was checked: the texts of its own files, and what it read
pub record Checked : Type 0 where
  pub texts : List (Path × Option TextOrMark)
  pub key : Key

-- what was done last with each path, nothing where it was never done or is no longer kept
pub record Kept : Type 0 where
  pub parsed : Path → Option TextOrMark
  pub linked : Path → Option Linked
  pub checked : Path → Option Checked

-- What a file has to do with others. A file is known by its place among all files, and `dart:core`, which is no file, has the first.

-- all files as others see them, what their directives are about, and which are libraries
abbrev pub sources_now : State → List SourceFile
sources_now s = sources_of (files_of s)

abbrev pub aims_now : State → List (List Aim)
aims_now s = aims_of s.roots.packages (sources_now s)

abbrev pub heads_now : State → List Head
heads_now s = heads_of s.roots.packages (sources_now s)

-- the path of the file at a place
abbrev pub path_at : State → (place : ℕ) → Path
path_at s place = slice_index_or (map (λ source. source.path) (sources_now s)) place []

-- the text of a path as it is now, or its mark
abbrev pub text_now : State → Path → Option TextOrMark
text_now s path = option_map text_or_mark (current s path)

-- a directive leads to the file that it names
abbrev pub edge_to : (from : ℕ) → Option ℕ → List Edge
edge_to from None = []
edge_to from (Some zero) = []
edge_to from (Some (suc to)) = record { from = from; to = suc to } ∷ []

-- the directives of files, the first of which stands at a place
abbrev pub directive_edges : (from : ℕ) → List (List Aim) → List Edge
directive_edges from [] = []
directive_edges from (aims ∷ more) = flat_map (λ aim. edge_to from aim.target) aims ++ directive_edges (from + 1) more

-- the imports and exports of libraries
abbrev pub library_edges : State → List Edge
library_edges s = edges_from (heads_now s) (length (sources_now s)) 0 (aims_now s)

-- the files that a file reads: itself, and each file that a directive of one of these names
pub record AreUnits (s : State) (place : ℕ) (units : List Path) : Type 0 where
  pub places : List ℕ
  pub read : AreReached (directive_edges 0 (aims_now s)) place places
  pub units_are : units ≡ map (path_at s) places

-- what others see of a file: all of its text, as long as no checker tells a file by its interface part
abbrev pub interface_of : FileContents → List ℕ
interface_of contents = read_as contents

-- what the library at a place reads now
pub record IsKey (s : State) (library : ℕ) (key : Key) : Type 0 where
  pub units : List Path
  pub are_units : AreUnits s library units
  pub key_is : key ≡ map (λ unit. (unit, option_map_or interface_of (current s unit) [])) units

-- the library at a place as it is linked now, with the libraries of its cycle
pub record IsLinkedNow (s : State) (cycle : List ℕ) (library : ℕ) (linked : Linked) : Type 0 where
  pub cycle_is : linked.cycle ≡ map (path_at s) cycle
  pub is_key : IsKey s library linked.key

-- the texts of the files of a library as they are now
abbrev pub texts_now : State → (places : List ℕ) → List (Path × Option TextOrMark)
texts_now s places = map (λ place. (path_at s place, text_now s (path_at s place))) places

-- the library at a place as it is checked now, with its parts
pub record IsCheckedNow (s : State) (library : ℕ) (checked : Checked) : Type 0 where
  pub texts_are : checked.texts ≡ texts_now s (units_of (heads_now s) library (aims_at (aims_now s) library))
  pub is_key : IsKey s library checked.key

-- a place is among these
abbrev pub is_place_among : List ℕ → ℕ → Bool
is_place_among places place = list_any (nat_eq place) places

-- a cycle has one of these libraries and isn't that of `dart:core`
abbrev pub is_reached : (libraries cycle : List ℕ) → Bool
is_reached libraries cycle = list_any (is_place_among libraries) cycle && not (is_place_among cycle 0)

-- the cycles of libraries that the library at a place reaches, `dart:core` aside
pub record AreCyclesFrom (s : State) (library : ℕ) (cycles : List (List ℕ)) : Type 0 where
  pub all : List (List ℕ)
  pub are_all : AreCycles (library_edges s) (length (sources_now s)) all
  pub libraries : List ℕ
  pub reached : AreReached (library_edges s) library libraries
  pub cycles_are : cycles ≡ filter (is_reached libraries) all

-- the library of the file at a place, none where it is a part that belongs to none
abbrev pub library_of : (place : ℕ) → Home → Option ℕ
library_of place home.Homeless = None
library_of place home.Library = Some place
library_of place (home.PartOf library) = Some library

-- the cycles that a library reaches, if there is one
abbrev pub AreCyclesOf : State → Option ℕ → List (List ℕ) → Type 0
AreCyclesOf s None cycles = cycles ≡ []
AreCyclesOf s (Some library) cycles = AreCyclesFrom s library cycles

-- what a question for a file is about: the files that it reads, its library and the cycles that this reaches
pub record Question (s : State) (path : Path) : Type 0 where
  pub place : ℕ
  pub stands : place_in path (files_of s) ≡ Some place
  pub units : List Path
  pub are_units : AreUnits s place units
  pub cycles : List (List ℕ)
  pub are_cycles : AreCyclesOf s (library_of place (home_of (heads_now s) (aims_now s) place)) cycles

-- the library that a question is about
abbrev pub library_asked : (s : State) (path : Path) → Question s path → Option ℕ
library_asked s path question = library_of question.place (home_of (heads_now s) (aims_now s) question.place)

-- How much is needed.

-- once, unless it is so already
abbrev pub OnceUnless : Type 0 → ℕ → Type 0
OnceUnless so n = (so × (n ≡ 0)) ⊎ ((so → ⊥) × (n ≡ 1))

-- so often, for all of these together
abbrev pub ForAll : {A : Type 0} → (A → ℕ → Type 0) → List A → ℕ → Type 0
ForAll needs [] n = n ≡ 0
ForAll needs (a ∷ more) n = (first : ℕ) × (rest : ℕ) × needs a first × ForAll needs more rest × (n ≡ first + rest)

-- each member of a cycle is kept as it is linked now
pub record AreLinked (s : State) (kept : Kept) (cycle : List ℕ) : Type 0 where
  pub each : (library : ℕ) → Contains cycle library → (linked : Linked) × IsLinkedNow s cycle library linked × (kept.linked (path_at s library) ≡ Some linked)

-- a library is kept as it is checked now
pub record IsChecked (s : State) (kept : Kept) (library : ℕ) : Type 0 where
  pub checked : Checked
  pub is_now : IsCheckedNow s library checked
  pub is_kept : kept.checked (path_at s library) ≡ Some checked

-- a library, if there is one, needs one check
abbrev pub NeedsCheck : State → Kept → Option ℕ → ℕ → Type 0
NeedsCheck s kept None n = n ≡ 0
NeedsCheck s kept (Some library) n = OnceUnless (IsChecked s kept library) n

-- what a question needs: one parse for each file that isn't kept as it now is, one link for each cycle of which not all is, and one check
pub record Needs (s : State) (path : Path) (question : Question s path) (kept : Kept) (work : Counts) : Type 0 where
  pub parses : ForAll (λ unit n. OnceUnless (kept.parsed unit ≡ text_now s unit) n) question.units work.parses
  pub links : ForAll (λ cycle n. OnceUnless (AreLinked s kept cycle) n) question.cycles work.links
  pub checks : NeedsCheck s kept (library_asked s path question) work.checks

-- What is kept afterwards.

abbrev pub if_current : {A : Type 0} → State → Path → Option A → Option A
if_current s path kept = if is_some (current s path) then kept else None

-- with other contents exactly what was kept of the paths goes that have nothing any more
pub record Drops (s : State) (old new : Kept) : Type 0 where
  pub parsed : (path : Path) → new.parsed path ≡ if_current s path (old.parsed path)
  pub linked : (path : Path) → new.linked path ≡ if_current s path (old.linked path)
  pub checked : (path : Path) → new.checked path ≡ if_current s path (old.checked path)

-- a path is among these
abbrev pub is_among : List Path → Path → Bool
is_among paths path = list_any (λ other. bytes_eq path other) paths

-- the file of a path is none of the libraries of these cycles
abbrev pub is_elsewhere : State → List (List ℕ) → Path → Bool
is_elsewhere s cycles path = not (list_any (λ cycle. is_among (map (path_at s) cycle) path) cycles)

-- a path isn't that of a library, if there is one
abbrev pub is_other : State → Option ℕ → Path → Bool
is_other s None path = true
is_other s (Some library) path = not (bytes_eq path (path_at s library))

-- a library, if there is one, is kept as it is checked now
abbrev pub IsCheckedIf : State → Kept → Option ℕ → Type 0
IsCheckedIf s kept None = Unit {0}
IsCheckedIf s kept (Some library) = IsChecked s kept library

-- a question leaves what was done for it, and what was kept of other paths
pub record Replaces (s : State) (path : Path) (question : Question s path) (old new : Kept) : Type 0 where
  pub parsed : (other : Path) → new.parsed other ≡ (if is_among question.units other then text_now s other else old.parsed other)
  pub linked : (cycle : List ℕ) → Contains question.cycles cycle → AreLinked s new cycle
  pub linked_else : (other : Path) → T (is_elsewhere s question.cycles other) → new.linked other ≡ old.linked other
  pub checked : IsCheckedIf s new (library_asked s path question)
  pub checked_else : (other : Path) → T (is_other s (library_asked s path question) other) → new.checked other ≡ old.checked other

-- What a checker says that tells of its work, or doesn't; it goes on as it began.

-- it was handed other contents
abbrev pub Handed : State → (old new : Option Kept) → Type 0
Handed s None None = Unit {0}
Handed s None (Some new) = ⊥
Handed s (Some old) None = ⊥
Handed s (Some old) (Some new) = Drops s old new

-- it did just what was needed
pub record Answers (s : State) (path : Path) (old new : Kept) (before after : Counts) : Type 0 where
  pub question : Question s path
  pub needed : Counts
  pub needs : Needs s path question old needed
  pub raised : after ≡ raised_by needed before
  pub replaces : Replaces s path question old new

-- it was asked for a file
abbrev pub Asked : State → Path → (old new : Option Kept) → (before after : Counts) → Type 0
Asked s path None None before after = Unit {0}
Asked s path None (Some new) before after = ⊥
Asked s path (Some old) None before after = ⊥
Asked s path (Some old) (Some new) before after = Answers s path old new before after
