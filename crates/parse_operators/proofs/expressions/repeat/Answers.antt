-- One more right side behind what stands on the left.
use Rattle.std.proofs.Common.{◌≡◌, ◌-◌, ◌≤◌, true, refl, sym, ap, ◌∙◌, arith}
use Rattle.dart_tree.specs.Heights.{height}
use Rattle.readings.specs.Descent.{take_onto}
use Rattle.grammar.specs.Expressions.{times_behind, side_with, is_open}
use Rattle.grammar.specs.Descents.{lower, take_right}
use Rattle.parse_leaves.specs.Parts.{side_of, side_height}
use Rattle.parse_leaves.specs.Loops.{chain_goes}
use Rattle.parse_leaves.specs.Grown.{node_grown, node_within}
use Rattle.parse_operators.proofs.expressions.repeat.Goals as goal

pub loop-more-preserved : goal.loop-more-preserved
loop-more-preserved g c =
    let known : c.room-room.result ≡ g.B.Below.room c.args.below.now = c.loop-more.invariant.known in
    let still : is_open (g.B.Below.room c.args.below.now) c.loop-more.left ≡ true =
    ap (λ k. is_open k c.loop-more.left) (sym known) ∙ sym c.is_open.ensures.open ∙ c.if-not-is_open.false in
    let deep : c.loop-more.height ≤ c.room-room.result = c.is_open.ensures.within c.if-not-is_open.false in
    record {
      reading =
          chain_goes (take_onto c.args.start.now (times_behind c.args.setting c.args.level c.args.first c.args.tokens.now) (is_open (g.B.Below.room c.args.below.now)) side_with (take_right c.args.setting (lower (g.B.Below.room c.args.below.now)) c.args.level c.args.above.now) c.args.first c.args.tokens.now) c.args.start.now c.loop-more.more (c.loop-more.more - 1) (is_open (g.B.Below.room c.args.below.now)) side_with (take_right c.args.setting (lower (g.B.Below.room c.args.below.now)) c.args.level c.args.above.now)
          c.loop-more.left c.in_ok-left-in-Ok.left c.loop-more.rest.now c.in-Ok.after.now (side_of c.in-Ok.added) c.loop-more.invariant.reading (omega arith) still
          c.in-Ok.ensures.reading c.in_ok-left-in-Ok.ensures.reading refl;
      deep = node_grown c.loop-more.height c.in-Ok.tall c.higher-height.result (height c.loop-more.left) (side_height (side_of c.in-Ok.added)) (height c.in_ok-left-in-Ok.left) c.loop-more.invariant.deep c.in-Ok.ensures.deep.0 c.higher-height.ensures c.in_ok-left-in-Ok.ensures.deep;
      within = node_within c.loop-more.height c.in-Ok.tall c.higher-height.result (g.B.Below.room c.args.below.now) c.room-room.result deep known c.in-Ok.ensures.deep.1 c.higher-height.ensures;
      known = known;
    }
