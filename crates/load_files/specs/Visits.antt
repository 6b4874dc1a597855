-- What a walk over the roots meets, in order.
use Rattle.std.specs.Prelude.{ℕ, zero, suc, ◌+◌, List, [], ◌∷◌, ◌++◌, flat_map, if◌then◌else◌, Option, None, Some}
use Rattle.load_files.specs.declared.packages.Package.{Package}
use Rattle.fault_io.specs.Stored.{Stored, bytes_at}
use Rattle.fault_io.specs.declared.traits.EntryKind.{EntryKind}
use Rattle.fault_io.specs.declared.traits.EntryKind.TheVariants.{Folder, File, Other}
use Rattle.load_files.specs.Folders.{Entries, listing}
use Rattle.load_files.specs.Paths.{child, is_excluded, is_library}
use Rattle.load_files.specs.declared.roots.Roots.{Roots}
use Rattle.load_files.specs.declared.walk.TheConstants.{MAX_DEPTH}

-- a file is read, or a folder is met that stands too deep
pub data Visit : Type 0 where
  file : (path bytes : List ℕ) → Visit
  too_deep : Visit

-- the file that `read` gives, or nothing
abbrev pub read_visits : List ℕ → Option (List ℕ) → List Visit
read_visits path None = []
read_visits path (Some bytes) = file path bytes ∷ []

-- a file is read where its name ends in `.dart`
unfoldable pub file_visits : Stored → List ℕ → List Visit
file_visits files path = if is_library path then read_visits path (bytes_at files path) else []

-- a folder is walked; all else is a file, or nothing
abbrev pub kind_visits : Stored → (List ℕ → List Visit) → EntryKind → List ℕ → List Visit
kind_visits files folder_visits Folder path = folder_visits path
kind_visits files folder_visits File path = file_visits files path
kind_visits files folder_visits Other path = file_visits files path

-- an entry that is excluded is neither listed nor read
unfoldable pub entry_visits : Stored → List (List ℕ) → (List ℕ → List Visit) → List ℕ → List ℕ × EntryKind → List Visit
entry_visits files excluded folder_visits folder entry =
    let path = child folder entry.0 in
    if is_excluded excluded path then [] else kind_visits files folder_visits entry.1 path

-- entries are visited one after another
abbrev pub entries_visits : Stored → List (List ℕ) → (List ℕ → List Visit) → List ℕ → Entries → List Visit
entries_visits files excluded folder_visits folder entries = flat_map (entry_visits files excluded folder_visits folder) entries

-- where there are entries they are visited, else there may be a file
abbrev pub place_visits : Stored → List (List ℕ) → (List ℕ → List Visit) → List ℕ → Option Entries → List Visit
place_visits files excluded folder_visits path None = file_visits files path
place_visits files excluded folder_visits path (Some entries) = entries_visits files excluded folder_visits path entries

-- what is met at a path, from which folders may be entered so many levels deep, its own the first
unfoldable pub visits : Stored → List (List ℕ) → ℕ → List ℕ → List Visit
visits files excluded zero path = too_deep ∷ []
visits files excluded (suc left) path = place_visits files excluded (visits files excluded left) path (listing files path)

-- a root that is excluded is neither listed nor read
unfoldable pub root_visits : Stored → List (List ℕ) → List ℕ → List Visit
root_visits files excluded root = if is_excluded excluded root then [] else visits files excluded (MAX_DEPTH + 1) root

abbrev pub included_visits : Stored → List (List ℕ) → List (List ℕ) → List Visit
included_visits files excluded included = flat_map (root_visits files excluded) included

abbrev pub package_visits : Stored → List (List ℕ) → List Package → List Visit
package_visits files excluded packages = flat_map (λ each. root_visits files excluded each.folder) packages

-- the included paths come first, and then the folders of the packages
abbrev pub all_visits : Stored → Roots → List Visit
all_visits files roots = included_visits files roots.excluded roots.included ++ package_visits files roots.excluded roots.packages
