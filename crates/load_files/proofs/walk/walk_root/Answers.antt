use Rattle.std.proofs.Common.{rules, ◌≡◌, true, false}
use Rattle.load_files.specs.Paths.{is_excluded}
use Rattle.load_files.proofs.Walking.{gives_nothing}
use Rattle.load_files.proofs.Meeting.{refused_alike, done_alike, root_excluded, root_walked}
use Rattle.load_files.proofs.walk.walk_root.Goals as goal

-- the root is excluded
pub returns-then-is_excluded-clause-walked : goal.returns-then-is_excluded-clause-walked
returns-then-is_excluded-clause-walked g c = λ stored is.
    let out : is_excluded c.args.excluded.now c.args.root.now ≡ true = search rules in
    gives_nothing _ _ _ (root_excluded stored c.args.excluded.now c.args.root.now out)

-- what is met at the root is refused, or walked
pub returns-in_err-walk-clause-walked : goal.returns-in_err-walk-clause-walked
returns-in_err-walk-clause-walked g c = λ stored is.
    let free : is_excluded c.args.excluded.now c.args.root.now ≡ false = search rules in
    refused_alike _ _ _ _ _ c.from_residual.result _ (root_walked stored c.args.excluded.now c.args.root.now free) c.from_residual.ensures.1 (c.in_err-walk.ensures.walked stored is)

pub returns-clause-walked : goal.returns-clause-walked
returns-clause-walked g c = λ stored is.
    let free : is_excluded c.args.excluded.now c.args.root.now ≡ false = search rules in
    done_alike _ _ _ _ _ (root_walked stored c.args.excluded.now c.args.root.now free) (c.in_ok-walk.ensures.walked stored is)
