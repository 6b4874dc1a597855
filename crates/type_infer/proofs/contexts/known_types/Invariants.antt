use Rattle.std.proofs.Common.{drop}
use Rattle.type_infer.proofs.ContextSteps.{IsLearning}
use Rattle.type_infer.proofs.contexts.known_types.Given as goal

abbrev pub invariant-loop-param : goal.invariant-loop-param
invariant-loop-param l = IsLearning l.rows.table l.found l.params (drop l.param-index l.params) l.known.items
