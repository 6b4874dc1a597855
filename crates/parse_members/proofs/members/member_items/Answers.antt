-- One more member of the list.
use Rattle.std.proofs.Common.{rules, ◌≡◌, ◌-◌, ◌∷◌, refl}
use Rattle.readings.specs.Descent.{all_items}
use Rattle.grammar.specs.Statements.{segment, error_of}
use Rattle.grammar.specs.Descents.{lower}
use Rattle.grammar.specs.DeclarationDescents.{take_member}
use Rattle.parse_expr.specs.ItemLaws.{list_goes}
use Rattle.parse_members.proofs.members.member_items.Goals as goal

pub loop-more-preserved : goal.loop-more-preserved
loop-more-preserved g c =
    let there : c.loop-more.rest.now ≡ c.in-Some._first.now ∷ c.in-Some._behind.now = search rules in
    record {
      reading =
          list_goes (all_items (take_member c.args.in_core c.args.class (lower (g.B.Below.room c.args.below.now))) segment error_of c.args.tokens.now) c.loop-more.more (c.loop-more.more - 1) (take_member c.args.in_core c.args.class (lower (g.B.Below.room c.args.below.now))) c.loop-more.list.items c.push.new.self.items
          c.loop-more.rest.now c.in_ok-next.after.now c.in-Some._behind.now c.in-Some._first.now c.in_ok-next.next c.loop-more.invariant.reading c.loop-more-test.true there c.in_ok-next.ensures c.in_ok-push.ensures.items refl;
    }
