-- The entries of a folder, in the order in which a walk meets them.
use Rattle.std.specs.Prelude.{ℕ, List, [], ◌∷◌, if◌then◌else◌, Option, None, Some}
use Rattle.std.specs.FinMap.Entries.{put}
use Rattle.fault_io.specs.Stored.{Stored, is_folder, entries_toward}
use Rattle.fault_io.specs.declared.traits.Entry.{Entry}
use Rattle.fault_io.specs.declared.traits.EntryKind.{EntryKind}
use Rattle.load_files.specs.Tables.{path_cmp}

-- entries, each as its name and its kind
abbrev pub Entries : Type 0
Entries = List (List ℕ × EntryKind)

-- entries in the order of their names, each name once
unfoldable pub in_order : List Entry → Entries
in_order [] = []
in_order (entry ∷ entries) = put path_cmp entry.name entry.kind (in_order entries)

-- the entries of a folder of the store; nothing for what is no folder
unfoldable pub listing : Stored → List ℕ → Option Entries
listing files path = if is_folder files path then Some (in_order (entries_toward path files)) else None
