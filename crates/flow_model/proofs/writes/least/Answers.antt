use Rattle.std.proofs.Common.{◌≡◌, ◌∙◌, true, ap, sym, add-one}
use Rattle.std.specs.List.{list_all}
use Rattle.dart_types.specs.Ty.{Ty}
use Rattle.dart_types.specs.SubTest.{sub}
use Rattle.flow_model.specs.Assign.{at_most_one}
use Rattle.flow_model.proofs.ListTests.{find-drop}
use Rattle.flow_model.proofs.writes.least.Goals as goal

-- the first type that is below all is found here
pub returns-then-is_below_all : goal.returns-then-is_below_all
returns-then-is_below_all c =
    let below_all = λ (t : Ty). list_all (sub c.args.rows.now.table t) c.args.types.now in
    let passes : below_all c.t-item.result ≡ true = sym c.is_below_all.ensures ∙ c.if-is_below_all.true in
    let step = find-drop below_all c.args.types.now c.loop-t.t-index c.t-item.result c.loop-t-test.true c.t-item.is in
    ap at_most_one (c.loop-t.invariant ∙ (rw passes at step))

-- this type isn't, so it is found behind
pub loop-t-preserved : goal.loop-t-preserved
loop-t-preserved c =
    let below_all = λ (t : Ty). list_all (sub c.args.rows.now.table t) c.args.types.now in
    let fails = sym c.is_below_all.ensures ∙ c.if-is_below_all.false in
    let step = find-drop below_all c.args.types.now c.loop-t.t-index c.t-item.result c.loop-t-test.true c.t-item.is in
    rw add-one (c.loop-t.invariant ∙ (rw fails at step))
