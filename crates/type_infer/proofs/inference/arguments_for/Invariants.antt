use Rattle.std.proofs.Common.{drop}
use Rattle.type_infer.proofs.ArgumentSteps.{IsGiving}
use Rattle.type_infer.proofs.inference.arguments_for.Given as goal

abbrev pub invariant-loop-param : goal.invariant-loop-param
invariant-loop-param l = IsGiving l.rows.table l.found l.params (drop l.param-index l.params) l.given.items
