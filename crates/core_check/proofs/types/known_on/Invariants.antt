use Rattle.std.proofs.Common.{◌≡◌, drop}
use Rattle.core_check.specs.Types.{changes_to, known_on}
use Rattle.core_check.proofs.types.known_on.Given as goal

abbrev pub invariant-loop-change : goal.invariant-loop-change
invariant-loop-change l =
    known_on l.context.program.now l.context.function.now l.facts l.changes l.slot
    ≡ changes_to l.context.program.now l.context.function.now l.facts (drop l.change-index l.changes) l.slot l.known
