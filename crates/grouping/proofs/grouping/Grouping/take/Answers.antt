use Rattle.std.proofs.Common.{[]}
use Rattle.grouping.proofs.AddLemmas.{IsAdded, plain_added}
use Rattle.grouping.proofs.grouping.Grouping.take.Goals as goal

taken : (c : goal.In_ok-add) → IsAdded c.args.self.now c.args.token c.add.new.read.items c.self.inside.unopened.items c.self.inside.around
taken c =
    plain_added c.args.self.now c.args.token c.self.inside.read.items c.add.new.read.items c.self.inside.unopened.items [] c.self.inside.around [] c.self.view_is c.self.invariant c.requires.opens
    c.requires.closes c.in_ok-add.ensures.added

pub invariant_of-self-2 : goal.invariant_of-self-2
invariant_of-self-2 c = (taken c).so_far

pub returns-clause-added : goal.returns-clause-added
returns-clause-added c = (taken c).all
