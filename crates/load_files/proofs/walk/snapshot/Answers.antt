use Rattle.std.proofs.Common.{◌∙◌, ap, Ok, sym}
use Rattle.load_files.proofs.Meeting.{included_refused, loaded_next, packages_refused}
use Rattle.load_files.proofs.walk.snapshot.Goals as goal

-- an included path is refused
pub returns-in_err-walk_included-clause-exact : goal.returns-in_err-walk_included-clause-exact
returns-in_err-walk_included-clause-exact g c = λ stored is.
    included_refused stored c.args.roots.now c.args.kept.now c.new-loading.result c.as_slice-excluded.result.now c.as_slice.result.now c.new-loading.ensures c.as_slice-excluded.ensures c.as_slice.ensures
    c.from_residual.result _ c.from_residual.ensures.1 (c.in_err-walk_included.ensures.walked stored is)

-- the folder of a package is refused
pub returns-in_err-walk_packages-clause-exact : goal.returns-in_err-walk_packages-clause-exact
returns-in_err-walk_packages-clause-exact g c = λ stored is.
    packages_refused stored c.args.roots.now c.args.kept.now c.new-loading.result c.as_slice-excluded.result.now c.as_slice.result.now c.new-loading.ensures c.as_slice-excluded.ensures c.as_slice.ensures
    c.as_slice-2.result.now c.walk_included.new.loading c.in_ok-walk_included.ensures.kept c.as_slice-2.ensures (c.in_ok-walk_included.ensures.walked stored is)
    c.from_residual-in_err-walk_packages.result _ c.from_residual-in_err-walk_packages.ensures.1 (c.in_err-walk_packages.ensures.walked stored (c.in_ok-walk_included.ensures.told ∙ is))

-- all are walked
pub returns-clause-exact : goal.returns-clause-exact
returns-clause-exact g c = λ stored is.
    loaded_next stored c.args.roots.now c.args.kept.now c.new-loading.result c.as_slice-excluded.result.now c.as_slice.result.now c.new-loading.ensures c.as_slice-excluded.ensures c.as_slice.ensures
    c.as_slice-2.result.now c.walk_included.new.loading c.in_ok-walk_included.ensures.kept c.as_slice-2.ensures (c.in_ok-walk_included.ensures.walked stored is)
    ∙ (c.in_ok-walk_packages.ensures.walked stored (c.in_ok-walk_included.ensures.told ∙ is) ∙ ap Ok (sym c.into_snapshot.ensures))
