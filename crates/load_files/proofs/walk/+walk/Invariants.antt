use Rattle.std.proofs.Common.{◌≡◌, ◌+◌, ◌*◌, drop}
use Rattle.std.specs.Option.{ForSome}
use Rattle.std.specs.Prelude.{flat_map}
use Rattle.load_files.specs.Loads.{after_visits}
use Rattle.load_files.specs.Visits.{entry_visits, visits}
use Rattle.load_files.proofs.walk.+walk.Given as goal

abbrev pub decreases-walk : goal.decreases-walk
decreases-walk g l = 3 * l.left

abbrev pub decreases-walk_entries : goal.decreases-walk_entries
decreases-walk_entries g l = 3 * l.left + 2

abbrev pub decreases-walk_entry : goal.decreases-walk_entry
decreases-walk_entry g l = 3 * l.left + 1

abbrev pub invariant-walk_entries-loop-entry : goal.invariant-walk_entries-loop-entry
invariant-walk_entries-loop-entry g l = record {
  walked : ForSome (g.F.Files.told l.fn.files) (λ stored.
      after_visits l.fn.loading.kept (flat_map (λ entry. entry_visits stored l.fn.excluded (visits stored l.fn.excluded l.fn.left) l.fn.folder (entry.name, entry.kind)) l.fn.entries) l.fn.loading.files
      ≡ after_visits l.fn.loading.kept (flat_map (λ entry. entry_visits stored l.fn.excluded (visits stored l.fn.excluded l.fn.left) l.fn.folder (entry.name, entry.kind)) (drop l.entry-index l.fn.entries)) l.loading.files);
  kept : l.loading.kept ≡ l.fn.loading.kept;
  told : g.F.Files.told l.files ≡ g.F.Files.told l.fn.files;
  faults : g.F.Files.faults l.files ≡ g.F.Files.faults l.fn.files;
}
