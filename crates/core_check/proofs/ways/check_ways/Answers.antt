use Rattle.core_check.proofs.Clauses.{next_none}
use Rattle.core_check.proofs.ways.check_ways.Goals as goal

-- where all ways lead on no part of any fails
pub returns-then-branch : goal.returns-then-branch
returns-then-branch c = next_none c.args.context.program.now c.args.context.function.now c.args.facts.now c.args.ways.now (c.in_ok-all_lead.ensures c.if-branch.true)
