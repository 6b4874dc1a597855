use Rattle.std.proofs.Common.{◌≡◌, length, ap, arith, refl}
use Rattle.std.proofs.lemmas.Option.{slice_get_within}
use Rattle.core_ir.specs.Program.{Program}
use Rattle.core_check.specs.WellFormed.{IsFunctionOf}
use Rattle.core_check.proofs.Formed.{one_further}
use Rattle.core_check.proofs.well_formed.functions_are_in.Goals as goal

pub loop-number-preserved : goal.loop-number-preserved
loop-number-preserved c =
    one_further (IsFunctionOf c.args.program.now) c.args.program.now.functions c.loop-number.number c.function_in.result.now c.function_in.ensures.stands c.loop-number.invariant (c.is_function_of.ensures.0 c.if-not-is_function_of.false)

-- the invariant speaks of all functions
pub returns : goal.returns
returns c =
    let long : length c.program.inside.functions.items ≡ length c.args.program.now.functions = ap (λ (p : Program). length p.functions) c.program.view_is in (
      λ yes n g at. let within = slice_get_within c.args.program.now.functions n g at in c.loop-number.invariant n g (omega (arith, within, long)) at,
      λ all. refl,
    )
