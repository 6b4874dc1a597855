use Rattle.type_infer.proofs.NameTests.{name_missing, name_found}
use Rattle.type_infer.proofs.signatures.names_are_in.Goals as goal

pub returns-then-not-has_name : goal.returns-then-not-has_name
returns-then-not-has_name c =
    name_missing c.args.named.now c.args.others.now c.loop-item.item-index c.item-item.result c.loop-item-test.true c.item-item.is c.has_name.result c.has_name.ensures c.if-not-has_name.true c.loop-item.invariant

pub loop-item-preserved : goal.loop-item-preserved
loop-item-preserved c =
    name_found c.args.named.now c.args.others.now c.loop-item.item-index c.item-item.result c.loop-item-test.true c.item-item.is c.has_name.result c.has_name.ensures c.if-not-has_name.false c.loop-item.invariant
