use Rattle.std.proofs.Common.{◌≡◌, length, ap, arith, refl}
use Rattle.std.proofs.lemmas.Option.{slice_get_within}
use Rattle.core_ir.specs.Program.{Program}
use Rattle.core_check.specs.WellFormed.{IsPointOf}
use Rattle.core_check.proofs.Formed.{one_further}
use Rattle.core_check.proofs.well_formed.points_are_in.Goals as goal

pub loop-number-preserved : goal.loop-number-preserved
loop-number-preserved c =
    one_further (IsPointOf c.args.program.now) c.args.program.now.points c.loop-number.number c.point_in.result.now c.point_in.ensures.stands c.loop-number.invariant (c.in_ok-inside.ensures.0 c.if-not-inside.false)

-- the invariant speaks of all points
pub returns : goal.returns
returns c =
    let long : length c.program.inside.points.items ≡ length c.args.program.now.points = ap (λ (p : Program). length p.points) c.program.view_is in (
      λ yes k point at. let within = slice_get_within c.args.program.now.points k point at in c.loop-number.invariant k point (omega (arith, within, long)) at,
      λ all. refl,
    )
