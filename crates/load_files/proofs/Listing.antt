-- What a store lists, sorted by name, is the listing of a walk.
use Rattle.std.proofs.Common.{◌≡◌, true, false, List, ℕ, map, None, Some, refl, ap}
use Rattle.std.specs.List.Sorted.{IsPermutation, IsSortedBy}
use Rattle.fault_io.specs.Stored.{Stored, are_files, is_folder, AreEntries}
use Rattle.fault_io.specs.declared.traits.Entry.{Entry}
use Rattle.load_files.specs.Folders.{listing}
use Rattle.load_files.proofs.Sorting.{pair, by_name, sorted_entries}

pub no_listing : (stored : Stored) (path : List ℕ) → is_folder stored path ≡ false → None ≡ listing stored path
unfolding listing
no_listing stored path none = rw none refl

pub sorted_listing : (stored : Stored) (path : List ℕ) (es ws : List Entry) → are_files stored ≡ true → (is_folder stored path ≡ true) × AreEntries stored path es → IsPermutation es ws → IsSortedBy by_name ws → Some (map pair ws) ≡ listing stored path
unfolding listing
sorted_listing stored path es ws sound h shuffled sorted = rw h.0 (ap Some (sorted_entries stored path es ws sound h.1 shuffled sorted))
