use Rattle.std.proofs.Common.{◌≡◌, length, ap, arith}
use Rattle.core_ir.specs.Program.{Program}
use Rattle.core_check.proofs.Clauses.{fine_at_is}
use Rattle.core_check.proofs.points.check_points.Goals as goal

-- each point was looked at
pub returns-clause-accepted : goal.returns-clause-accepted
returns-clause-accepted c =
    let long : length c.program.inside.points.items ≡ length c.args.program.now.points = ap (λ (p : Program). length p.points) c.program.view_is in
    record { each = λ k lt. (fine_at_is c.equality_laws.ensures.types c.args.program.now k).1 (c.loop-number.invariant k (omega (arith, long))) }
