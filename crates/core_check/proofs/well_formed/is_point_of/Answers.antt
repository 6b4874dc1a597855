use Rattle.core_check.proofs.Formed.{point_parts}
use Rattle.core_check.proofs.well_formed.is_point_of.Goals as goal

-- its function and its shape are those of the point
pub returns : goal.returns
returns c =
    let parts = point_parts c.args.program.now c.args.number c.args.point.now c.function_in-function.result.now c.in_ok-shape.shape (c.has_function.ensures.0 c.if-not-has_function.false) c.function_in-function.ensures.read c.in_ok-shape.ensures in (
      λ yes. parts.0 (c.has_point_parts-inside.ensures.0 yes),
      λ is. c.has_point_parts-inside.ensures.1 (parts.1 is),
    )
