use Rattle.std.proofs.Common.{◌≡◌, drop}
use Rattle.std.specs.Option.{ForSome}
use Rattle.std.specs.Prelude.{flat_map}
use Rattle.load_files.specs.Loads.{after_visits}
use Rattle.load_files.specs.Visits.{root_visits}
use Rattle.load_files.proofs.walk.walk_packages.Given as goal

abbrev pub invariant-loop-package : goal.invariant-loop-package
invariant-loop-package g l = record {
  walked : ForSome (g.F.Files.told l.fn.files) (λ stored.
      after_visits l.fn.loading.kept (flat_map (λ each. root_visits stored l.fn.excluded each.folder) l.fn.packages) l.fn.loading.files
      ≡ after_visits l.fn.loading.kept (flat_map (λ each. root_visits stored l.fn.excluded each.folder) (drop l.package-index l.fn.packages)) l.loading.files);
  kept : l.loading.kept ≡ l.fn.loading.kept;
  told : g.F.Files.told l.files ≡ g.F.Files.told l.fn.files;
  faults : g.F.Files.faults l.files ≡ g.F.Files.faults l.fn.files;
}
