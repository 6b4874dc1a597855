-- What a level adds, once more.
use Rattle.std.proofs.Common.{◌≡◌, ◌≤◌, ◌-◌, true, false, [], Some, None, refl, sym, ap, subst, ◌∙◌, arith}
use Rattle.last_parts.specs.LastParts.{IsLast}
use Rattle.parse_leaves.specs.Loops.{chain_goes, chain_ends}
use Rattle.parse_leaves.specs.Next.{next_level}
use Rattle.parse_operators.specs.Ends.{Places, all_behind, behind, behind_at, comes_next, goes_on, joined}
use Rattle.parse_operators.proofs.Kept.{behind_last}
use Rattle.parse_operators.proofs.Steps.{behind_none, behind_next, joined_deep}
use Rattle.parse_operators.proofs.again.repeat.Goals as goal

pub returns-then-not-comes_next-clause-found : goal.returns-then-not-comes_next-clause-found
returns-then-not-comes_next-clause-found g c =
    let comes : comes_next c.args.level (next_level c.loop-more.rest.now) ≡ false = ap (comes_next c.args.level) (sym c.next_level.ensures) ∙ sym c.comes_next.ensures ∙ c.if-not-comes_next.true in
    chain_ends (all_behind (g.B.Below.room c.args.below.now) c.args.level c.args.left c.args.tokens.now) [] c.loop-more.more (goes_on (g.B.Below.room c.args.below.now)) joined (behind_at (g.B.Below.room c.args.below.now) c.args.level)
    c.loop-more.extent c.loop-more.rest.now c.loop-more.invariant.reading (behind_none (g.B.Below.room c.args.below.now) c.args.level c.loop-more.rest.now comes)

pub returns-in_default-clause-found : goal.returns-in_default-clause-found
returns-in_default-clause-found g c =
    let comes : comes_next c.args.level (next_level c.loop-more.rest.now) ≡ true = ap (comes_next c.args.level) (sym c.next_level.ensures) ∙ sym c.comes_next.ensures ∙ c.if-not-comes_next.false in
    let none : None ≡ behind (g.B.Below.room c.args.below.now) c.loop-more.rest.now = rw c.in_default.is at c.in_ok-side.ensures.found in
    chain_ends (all_behind (g.B.Below.room c.args.below.now) c.args.level c.args.left c.args.tokens.now) [] c.loop-more.more (goes_on (g.B.Below.room c.args.below.now)) joined (behind_at (g.B.Below.room c.args.below.now) c.args.level)
    c.loop-more.extent c.loop-more.rest.now c.loop-more.invariant.reading (behind_next (g.B.Below.room c.args.below.now) c.args.level c.loop-more.rest.now None comes none)

pub loop-more-preserved : goal.loop-more-preserved
loop-more-preserved g c =
    let comes : comes_next c.args.level (next_level c.loop-more.rest.now) ≡ true = ap (comes_next c.args.level) (sym c.next_level.ensures) ∙ sym c.comes_next.ensures ∙ c.if-not-comes_next.false in
    let some : Some (c.in-Some.side, c.in-Some.after.now) ≡ behind (g.B.Below.room c.args.below.now) c.loop-more.rest.now = rw c.in-Some.is at c.in_ok-side.ensures.found in
    let still : goes_on (g.B.Below.room c.args.below.now) c.loop-more.extent ≡ true = ap (λ k. goes_on k c.loop-more.extent) (sym c.loop-more.invariant.room) ∙ sym c.goes_on.ensures.open ∙ c.if-not-goes_on.false in
    let low : c.loop-more.extent.height ≤ 200 = omega (arith, c.goes_on.ensures.within c.if-not-goes_on.false, c.loop-more.invariant.room, c.requires.limit) in
    let last : IsLast c.in-Some.after.now c.loop-more.known.tokens = behind_last c.loop-more.known.tokens c.loop-more.rest.now c.in-Some.after.now (g.B.Below.room c.args.below.now) c.in-Some.side c.loop-more.invariant.last (sym some) in
    record {
      reading =
          chain_goes (all_behind (g.B.Below.room c.args.below.now) c.args.level c.args.left c.args.tokens.now) [] c.loop-more.more (c.loop-more.more - 1) (goes_on (g.B.Below.room c.args.below.now)) joined (behind_at (g.B.Below.room c.args.below.now) c.args.level)
          c.loop-more.extent c.joined-extent.result c.loop-more.rest.now c.in-Some.after.now c.in-Some.side c.loop-more.invariant.reading (omega arith) still
          (behind_next (g.B.Below.room c.args.below.now) c.args.level c.loop-more.rest.now (Some (c.in-Some.side, c.in-Some.after.now)) comes some) c.joined-extent.ensures refl;
      last = subst (λ (s : Places). IsLast c.in-Some.after.now s.tokens) (sym c.in_ok-side.ensures.same) last;
      deep = joined_deep c.loop-more.extent c.in-Some.side c.joined-extent.result low (rw c.in-Some.is at c.in_ok-side.ensures.deep) c.joined-extent.ensures;
      same = c.in_ok-side.ensures.same ∙ c.loop-more.invariant.same;
      room = c.loop-more.invariant.room;
    }
