use Rattle.std.proofs.Common.{rules, ◌≡◌, ◌∙◌, ap, arith}
use Rattle.load_files.specs.Visits.{root_visits}
use Rattle.load_files.specs.declared.packages.Package.{Package}
use Rattle.load_files.proofs.Meeting.{done_alike, handed_on_alike, next_done, next_refused, all_done}
use Rattle.load_files.proofs.walk.walk_packages.Goals as goal

-- a package is refused
pub returns-in_err-walk_root-clause-walked : goal.returns-in_err-walk_root-clause-walked
returns-in_err-walk_root-clause-walked g c = λ stored is.
    let at : c.package-item.result.folder ≡ c.as_str.result.now = search rules in
    next_refused c.args.loading.now.kept c.loop-package.loading.kept (λ (each : Package). root_visits stored c.args.excluded.now each.folder) c.args.packages.now c.loop-package.package-index c.args.loading.now.files c.loop-package.loading.files
    c.package-item.result c.from_residual.result _ _ c.loop-package-test.true c.package-item.is c.loop-package.invariant.kept (c.loop-package.invariant.walked stored is)
    c.from_residual.ensures.1
    (handed_on_alike _ _ _ _ _ (ap (root_visits stored c.args.excluded.now) at) (c.in_err-walk_root.ensures.walked stored (c.loop-package.invariant.told ∙ is)))

-- a package is walked, and those behind it are left
pub loop-package-preserved : goal.loop-package-preserved
loop-package-preserved g c = record {
  walked = λ stored is.
      let at : c.package-item.result.folder ≡ c.as_str.result.now = search rules in
      next_done c.args.loading.now.kept c.loop-package.loading.kept (λ (each : Package). root_visits stored c.args.excluded.now each.folder) c.args.packages.now c.loop-package.package-index c.args.loading.now.files c.loop-package.loading.files
      c.package-item.result c.walk_root.new.loading.files c.loop-package-test.true c.package-item.is c.loop-package.invariant.kept (c.loop-package.invariant.walked stored is)
      (done_alike _ _ _ _ _ (ap (root_visits stored c.args.excluded.now) at) (c.in_ok-walk_root.ensures.walked stored (c.loop-package.invariant.told ∙ is)));
  kept = c.in_ok-walk_root.ensures.kept ∙ c.loop-package.invariant.kept;
  told = c.in_ok-walk_root.ensures.told ∙ c.loop-package.invariant.told;
  faults = c.in_ok-walk_root.ensures.no_fault (λ e. cc) ∙ c.loop-package.invariant.faults;
}

-- all are walked
pub returns-clause-walked : goal.returns-clause-walked
returns-clause-walked g c = λ stored is.
    all_done c.args.loading.now.kept c.loop-package.loading.kept (λ (each : Package). root_visits stored c.args.excluded.now each.folder) c.args.packages.now c.loop-package.package-index c.args.loading.now.files c.loop-package.loading.files
    (omega (arith, c.loop-package-test.false)) (c.loop-package.invariant.walked stored is)
