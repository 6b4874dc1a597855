use Rattle.std.proofs.Common.{◌<◌, ◌^◌, [], length, arith, ◌∙◌}
use Rattle.dart_tokens.specs.Stack.{bracket_of}
use Rattle.grouping.proofs.AddLemmas.{IsAdded, opened_added, few_read}
use Rattle.grouping.proofs.grouping.Grouping.open.Goals as goal

opened : (c : goal.In-Ok) → IsAdded c.args.self.now c.args.token c.add.new.read.items c.self.inside.unopened.items c.push.new.self
opened c =
    let read = c.self.inside.read in
    opened_added c.args.self.now c.args.token read.items c.add.new.read.items c.self.inside.unopened.items [] c.self.inside.around c.push.new.self c.self.view_is c.self.invariant
    (bracket_of c.args.bracket) c.len-place.result c.requires.opens (c.len-place.ensures ∙ read.ok.0) c.in-Ok.ensures.added c.in_ok-push.ensures.opened

pub overflow_cast-place : goal.overflow_cast-place
overflow_cast-place c =
    let read = c.self.inside.read in
    let few : length read.items < 2 ^ 32 = few_read c.args.self.now read.items c.self.inside.unopened.items (2 ^ 32) c.self.view_is c.requires.few in omega (arith, few, read.ok.0, c.len-place.ensures)

pub invariant_of-self-in-Ok : goal.invariant_of-self-in-Ok
invariant_of-self-in-Ok c = (opened c).so_far

pub returns-in-Ok-clause-added : goal.returns-in-Ok-clause-added
returns-in-Ok-clause-added c = (opened c).all
