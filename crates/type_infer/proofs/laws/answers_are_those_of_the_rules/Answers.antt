use Rattle.std.proofs.Common.{List, sym, subst}
use Rattle.dart_types.specs.Ty.{invalid}
use Rattle.std.specs.Prelude.{length, slice_index_or}
use Rattle.type_infer.specs.Contexts.{ContextOf}
use Rattle.type_infer.specs.Inference.{pairs_of, Inferred}
use Rattle.type_infer.specs.Matching.{End, Match}
use Rattle.type_infer.specs.MatchOf.{match_of}
use Rattle.type_infer.specs.declared.constraints.Constraint.{Constraint}
use Rattle.type_infer.proofs.Answered.{inferred_call, inferred_only, context_call, context_only}
use Rattle.type_infer.proofs.MatchHolds.{match_is}
use Rattle.type_infer.proofs.OneMatch.{one_match}
use Rattle.type_infer.proofs.laws.answers_are_those_of_the_rules.Goals as goal

pub returns-clause-matched : goal.returns-clause-matched
returns-clause-matched c = λ side t s cs end.
    let table = c.args._rows.now.table in
    let params = c.args._params.now in
    let is = match_is table c.bound_table_laws.ensures params side t s in
    (λ m. one_match table params m is, λ e. subst (λ (f : End). Match table params side t s cs f) (sym e.1) (subst (λ (ds : List Constraint). Match table params side t s ds (match_of table params side t s).end) (sym e.0) is))

pub returns-clause-inferred : goal.returns-clause-inferred
returns-clause-inferred c = λ returned context formals actuals a.
    let table = c.args._rows.now.table in
    let laws = c.bound_table_laws.ensures in
    let params = c.args._params.now in
    (λ h. inferred_only table laws params returned context formals actuals a h, λ e. subst (Inferred table params (pairs_of returned context formals actuals)) (sym e) (inferred_call table laws params returned context formals actuals))

pub returns-clause-context : goal.returns-clause-context
returns-clause-context c = λ returned context formals done a.
    let table = c.args._rows.now.table in
    let laws = c.bound_table_laws.ensures in
    let params = c.args._params.now in
    (λ h. context_only table laws params returned context formals done a h, λ e. subst (ContextOf table params (pairs_of returned context formals done) (slice_index_or formals (length done) invalid)) (sym e) (context_call table laws params returned context formals done))
