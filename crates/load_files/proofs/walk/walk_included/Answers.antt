use Rattle.std.proofs.Common.{rules, ◌≡◌, ◌∙◌, ap, arith}
use Rattle.load_files.specs.Visits.{root_visits}
use Rattle.load_files.proofs.Meeting.{done_alike, handed_on_alike, next_done, next_refused, all_done}
use Rattle.load_files.proofs.walk.walk_included.Goals as goal

-- a root is refused
pub returns-in_err-walk_root-clause-walked : goal.returns-in_err-walk_root-clause-walked
returns-in_err-walk_root-clause-walked g c = λ stored is.
    let at : c.root-item.result ≡ c.as_str.result.now = search rules in
    next_refused c.args.loading.now.kept c.loop-root.loading.kept (root_visits stored c.args.excluded.now) c.args.included.now c.loop-root.root-index c.args.loading.now.files c.loop-root.loading.files
    c.root-item.result c.from_residual.result _ _ c.loop-root-test.true c.root-item.is c.loop-root.invariant.kept (c.loop-root.invariant.walked stored is)
    c.from_residual.ensures.1
    (handed_on_alike _ _ _ _ _ (ap (root_visits stored c.args.excluded.now) at) (c.in_err-walk_root.ensures.walked stored (c.loop-root.invariant.told ∙ is)))

-- a root is walked, and those behind it are left
pub loop-root-preserved : goal.loop-root-preserved
loop-root-preserved g c = record {
  walked = λ stored is.
      let at : c.root-item.result ≡ c.as_str.result.now = search rules in
      next_done c.args.loading.now.kept c.loop-root.loading.kept (root_visits stored c.args.excluded.now) c.args.included.now c.loop-root.root-index c.args.loading.now.files c.loop-root.loading.files
      c.root-item.result c.walk_root.new.loading.files c.loop-root-test.true c.root-item.is c.loop-root.invariant.kept (c.loop-root.invariant.walked stored is)
      (done_alike _ _ _ _ _ (ap (root_visits stored c.args.excluded.now) at) (c.in_ok-walk_root.ensures.walked stored (c.loop-root.invariant.told ∙ is)));
  kept = c.in_ok-walk_root.ensures.kept ∙ c.loop-root.invariant.kept;
  told = c.in_ok-walk_root.ensures.told ∙ c.loop-root.invariant.told;
  faults = c.in_ok-walk_root.ensures.no_fault (λ e. cc) ∙ c.loop-root.invariant.faults;
}

-- all are walked
pub returns-clause-walked : goal.returns-clause-walked
returns-clause-walked g c = λ stored is.
    all_done c.args.loading.now.kept c.loop-root.loading.kept (root_visits stored c.args.excluded.now) c.args.included.now c.loop-root.root-index c.args.loading.now.files c.loop-root.loading.files
    (omega (arith, c.loop-root-test.false)) (c.loop-root.invariant.walked stored is)
