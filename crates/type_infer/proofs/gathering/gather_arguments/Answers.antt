use Rattle.std.proofs.Common.{◌+◌, List, get_or, Ok, Err, subst, arith}
use Rattle.dart_types.specs.Ty.{Ty, types_of}
use Rattle.type_infer.specs.Pairs.{Pair, paired}
use Rattle.type_infer.specs.Matching.{Match}
use Rattle.type_infer.specs.Finds.{Finds}
use Rattle.type_infer.specs.Gathers.{GathersInto}
use Rattle.type_infer.specs.declared.constraints.Side.TheVariants.{AtLeast}
use Rattle.type_infer.proofs.GatherSteps.{match_refused, IsOnWay, way_goes_on, way_ends, paired_from, next_pair, no_pair}
use Rattle.type_infer.proofs.HandOn.{handed_on}
use Rattle.type_infer.proofs.gathering.gather_arguments.Goals as goal

-- a type on the way is too large
pub returns-in_err-match_types : goal.returns-in_err-match_types
returns-in_err-match_types c =
    let table = c.args.rows.now.table in
    let params = c.args.params.now in
    let formals = c.args.formals.now in
    let actuals = c.args.actuals.now in
    let i = c.loop-i.i in
    let formal = get_or formals i c.index-formals-i.result in
    let actual = c.index-actuals-i.result in
    let before = c.loop-i.found.items in
    let after = c.match_types.new.found.items in
    let why = c.in_err-match_types.field-0.0 in
    let ended = subst (λ (t : Ty). Finds (Match table params AtLeast t actual) before after (Err why)) c.index-formals-i.is c.in_err-match_types.ensures in
    let there = next_pair AtLeast formals actuals i c.index-formals-i.result actual (omega arith) c.loop-i-test.true c.index-actuals-i.is in
    let all = paired AtLeast (types_of formals) (types_of actuals) in
    let way = subst (λ (ps : List Pair). IsOnWay table params all ps c.args.found.now.items before) there c.loop-i.invariant in
    handed_on (GathersInto table params all c.args.found.now.items after) c.from_residual.result why c.from_residual.ensures.1
    (way.ended why (match_refused table params AtLeast formal actual before after why ended (paired_from AtLeast formals actuals (i + 1))))

pub loop-i-preserved : goal.loop-i-preserved
loop-i-preserved c =
    let table = c.args.rows.now.table in
    let params = c.args.params.now in
    let formals = c.args.formals.now in
    let actuals = c.args.actuals.now in
    let i = c.loop-i.i in
    let formal = get_or formals i c.index-formals-i.result in
    let actual = c.index-actuals-i.result in
    let before = c.loop-i.found.items in
    let after = c.match_types.new.found.items in
    let fits = c.in_ok-match_types.field-0 in
    let ended = subst (λ (t : Ty). Finds (Match table params AtLeast t actual) before after (Ok fits)) c.index-formals-i.is c.in_ok-match_types.ensures in
    let there = next_pair AtLeast formals actuals i c.index-formals-i.result actual (omega arith) c.loop-i-test.true c.index-actuals-i.is in
    let all = paired AtLeast (types_of formals) (types_of actuals) in
    let way = subst (λ (ps : List Pair). IsOnWay table params all ps c.args.found.now.items before) there c.loop-i.invariant in
    way_goes_on table params after AtLeast formal actual fits ended way

pub returns : goal.returns
returns c =
    way_ends c.args.rows.now.table c.args.params.now (no_pair AtLeast c.args.formals.now c.args.actuals.now c.loop-i.i c.loop-i-test.false) c.loop-i.invariant
