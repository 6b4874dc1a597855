use Rattle.std.proofs.Common.{List, subst, arith}
use Rattle.std.specs.Prelude.{All}
use Rattle.dart_types.specs.declared.superinterfaces.Superinterface.{Superinterface}
use Rattle.type_bounds.specs.Above.{AgreesWith}
use Rattle.type_bounds.proofs.General.{all_next, all_done, yes, granted}
use Rattle.type_bounds.proofs.superclasses.Pair.is_alone.Goals as goal

pub loop-s-preserved : goal.loop-s-preserved
loop-s-preserved c =
    all_next (AgreesWith c.args.self.now c.args.top.now) c.superinterfaces-s-items.result.now c.loop-s.s-index c.s-item.result c.loop-s-test.true c.s-item.is c.loop-s.invariant (granted c.agrees.ensures c.if-not-agrees.false)

pub returns : goal.returns
returns c =
    let agrees = AgreesWith c.args.self.now c.args.top.now in
    yes (subst (λ (list : List Superinterface). All agrees list) c.superinterfaces-s-items.ensures (all_done agrees c.superinterfaces-s-items.result.now c.loop-s.s-index (omega arith) c.loop-s.invariant))
