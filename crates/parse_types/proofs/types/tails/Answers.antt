-- One more tail behind a type.
use Rattle.std.proofs.Common.{◌≡◌, ◌-◌, length, refl, arith}
use Rattle.dart_tree.specs.Heights.{height, fits}
use Rattle.readings.specs.Descent.{take_onto}
use Rattle.grammar.specs.Types.{next_tail_of}
use Rattle.grammar.specs.Descents.{lower, take_tail_before}
use Rattle.parse_leaves.specs.Loops.{chain_goes, fits_deep}
use Rattle.parse_leaves.specs.Parts.{tail_of, tail_height}
use Rattle.parse_leaves.specs.Places.{question_of, ends_of}
use Rattle.parse_leaves.specs.Grown.{node_grown, node_within}
use Rattle.parse_types.proofs.types.tails.Goals as goal

pub loop-more-preserved : goal.loop-more-preserved
loop-more-preserved g c =
    let known : c.room-room.result ≡ g.B.Below.room c.args.below.now = c.loop-more.invariant.known in
    record {
      reading =
          chain_goes (take_onto c.args.start.now (length c.args.tokens.now) (fits (g.B.Below.room c.args.below.now)) next_tail_of (take_tail_before (lower (g.B.Below.room c.args.below.now)) (question_of c.args.place) (ends_of c.args.place)) c.args.first c.args.tokens.now) c.args.start.now c.loop-more.more (c.loop-more.more - 1)
          (fits (g.B.Below.room c.args.below.now)) next_tail_of (take_tail_before (lower (g.B.Below.room c.args.below.now)) (question_of c.args.place) (ends_of c.args.place)) c.loop-more.left c.in_ok-left-in-Ok.left c.loop-more.rest.now c.in-Ok.after.now (tail_of c.in-Ok.tail) c.loop-more.invariant.reading (omega arith)
          (fits_deep (g.B.Below.room c.args.below.now) c.loop-more.left c.loop-more.height c.loop-more.invariant.deep (omega (arith, known, c.if-height-room.false))) c.in-Ok.ensures.reading c.in_ok-left-in-Ok.ensures.reading refl;
      deep = node_grown c.loop-more.height c.in-Ok.tall c.higher-height.result (height c.loop-more.left) (tail_height (tail_of c.in-Ok.tail)) (height c.in_ok-left-in-Ok.left) c.loop-more.invariant.deep c.in-Ok.ensures.deep.0 c.higher-height.ensures c.in_ok-left-in-Ok.ensures.deep;
      within = node_within c.loop-more.height c.in-Ok.tall c.higher-height.result (g.B.Below.room c.args.below.now) c.room-room.result c.if-height-room.false known c.in-Ok.ensures.deep.1 c.higher-height.ensures;
      known = known;
    }
