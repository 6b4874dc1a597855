use Rattle.std.proofs.Common.{◌≡◌, drop}
use Rattle.std.specs.Option.{ForSome}
use Rattle.std.specs.Prelude.{flat_map}
use Rattle.load_files.specs.Loads.{after_visits}
use Rattle.load_files.specs.Visits.{root_visits}
use Rattle.load_files.proofs.walk.walk_included.Given as goal

abbrev pub invariant-loop-root : goal.invariant-loop-root
invariant-loop-root g l = record {
  walked : ForSome (g.F.Files.told l.fn.files) (λ stored.
      after_visits l.fn.loading.kept (flat_map (root_visits stored l.fn.excluded) l.fn.included) l.fn.loading.files
      ≡ after_visits l.fn.loading.kept (flat_map (root_visits stored l.fn.excluded) (drop l.root-index l.fn.included)) l.loading.files);
  kept : l.loading.kept ≡ l.fn.loading.kept;
  told : g.F.Files.told l.files ≡ g.F.Files.told l.fn.files;
  faults : g.F.Files.faults l.files ≡ g.F.Files.faults l.fn.files;
}
