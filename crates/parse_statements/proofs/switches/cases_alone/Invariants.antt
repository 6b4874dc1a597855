use Rattle.std.proofs.Common.{◌≡◌, map}
use Rattle.parse_statements.proofs.switches.cases_alone.Given as goal

abbrev pub invariant-loop-case : goal.invariant-loop-case
invariant-loop-case l = l.cases.items ≡ map (λ c. c.0) l.yielded
