-- One more item of the list.
use Rattle.std.proofs.Common.{rules, ◌≡◌, ◌-◌, ◌∷◌, refl}
use Rattle.readings.specs.Descent.{all_items}
use Rattle.grammar.specs.Statements.{segment, error_of}
use Rattle.grammar.specs.Descents.{lower}
use Rattle.parse_expr.specs.ItemLaws.{list_goes}
use Rattle.parse_expr.proofs.lists.statements.Goals as goal

pub loop-more-preserved : goal.loop-more-preserved
loop-more-preserved c =
    let there : c.loop-more.rest.now ≡ c.in-Some._first.now ∷ c.in-Some._behind.now = search rules in
    record {
      reading =
          list_goes (all_items ((lower c.args.room).statement) segment error_of c.args.tokens.now) c.loop-more.more (c.loop-more.more - 1) ((lower c.args.room).statement) c.loop-more.list.items c.push.new.self.items
          c.loop-more.rest.now c.in_ok-next.after.now c.in-Some._behind.now c.in-Some._first.now c.in_ok-next.next c.loop-more.invariant.reading c.loop-more-test.true there c.in_ok-next.ensures.reading c.in_ok-push.ensures.items refl;
      served = c.in_ok-next.ensures.served;
    }
