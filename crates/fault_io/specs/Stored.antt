-- The files that a store tells, and what it answers of them.
use Rattle.std.specs.Prelude.{◌≡◌, ◌≢◌, ℕ, Bool, true, false, not, ◌&&◌, ◌||◌, ◌==◌, ◌↔◌, List, [], ◌∷◌, length, take, nat_lt, Contains, AllPairs, find, filter_map, bytes_eq, if◌then◌else◌, Option, MatchOption, option_map}
use Rattle.std.specs.List.{list_all, list_any, position_or_len}
use Rattle.fault_io.specs.Paths.{slash, root, is_path, after_front, front_of, is_under}
use Rattle.fault_io.specs.declared.traits.Entry.{Entry}
use Rattle.fault_io.specs.declared.traits.EntryKind.TheVariants.{Folder, File}

-- files, each as its path and its bytes
abbrev pub Stored : Type 0
Stored = List (List ℕ × List ℕ)

-- neither path is the other or lies under it
abbrev pub are_apart : List ℕ → List ℕ → Bool
are_apart path other = not (bytes_eq path other || is_under path other || is_under other path)

-- paths of files: none is `/`, all are distinct, and none lies under another
abbrev pub are_files : Stored → Bool
are_files [] = true
are_files (file ∷ files) =
    is_path file.0 && not (bytes_eq file.0 root) && list_all (λ other. are_apart file.0 other.0) files && are_files files

-- a folder is `/`, or a path under which a file lies
abbrev pub is_folder : Stored → List ℕ → Bool
is_folder files path = is_path path && (bytes_eq path root || list_any (λ file. is_under path file.0) files)

-- the entry at which this rest of a path begins, up to its first slash: a folder where there is one, else a file
abbrev pub first_entry : List ℕ → Entry
first_entry rest =
    let until = position_or_len (λ byte. byte == slash) rest in
    record { name = take until rest; kind = if nat_lt until (length rest) then Folder else File }

-- the direct entry of a folder that is the file at this path, or below which it lies
abbrev pub entry_toward : List ℕ → List ℕ → Option Entry
entry_toward folder path = option_map first_entry (after_front (front_of folder) path)

-- the direct entries of a folder, each as often as a file leads to it
abbrev pub entries_toward : List ℕ → Stored → List Entry
entries_toward folder files = filter_map (λ file. entry_toward folder file.0) files

-- the direct entries of a folder, in any order, each once
pub record AreEntries (files : Stored) (folder : List ℕ) (entries : List Entry) : Type 0 where
  pub exactly : (entry : Entry) → Contains entries entry ↔ Contains (entries_toward folder files) entry
  pub once : AllPairs (λ entry other. entry ≢ other) entries

-- the answer to `list`: the direct entries of a folder, and nothing for all else
abbrev pub IsListing : Stored → List ℕ → Option (List Entry) → Type 0
IsListing files path found =
    MatchOption found (is_folder files path ≡ false) (λ entries. (is_folder files path ≡ true) × AreEntries files path entries)

-- the answer to `read`: the bytes of the file at this path
abbrev pub bytes_at : Stored → List ℕ → Option (List ℕ)
bytes_at files path = option_map (λ file. file.1) (find (λ file. bytes_eq file.0 path) files)
