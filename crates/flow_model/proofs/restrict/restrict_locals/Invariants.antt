use Rattle.std.proofs.Common.{◌≡◌}
use Rattle.flow_model.specs.Restrict.{restrict_facts}
use Rattle.flow_model.proofs.Pairs.{so_far}
use Rattle.flow_model.proofs.restrict.restrict_locals.Given as goal

-- of the locals before the place is known what is behind both
abbrev pub invariant-loop-i : goal.invariant-loop-i
invariant-loop-i l = l.restricted ≡ so_far (restrict_facts l.rows.table l.changes.written.now l.changes.captured.now) l.body l.block l.i
