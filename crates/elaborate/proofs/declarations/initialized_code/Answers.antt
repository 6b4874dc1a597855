use Rattle.std.proofs.Common.{ap, ◌∙◌}
use Rattle.elaborate.specs.Sources.{known_behind}
use Rattle.elaborate.proofs.MadeCode.{initialized_made, made_as}
use Rattle.elaborate.proofs.declarations.initialized_code.Goals as goal

pub returns : goal.returns
returns c =
    made_as c.pair.result
    (initialized_made c.args.said.now c.args.at c.args.name c.deref.result.now c.known_behind-flow.result.now c.args.value.now c.operand_of-from.result c.slot_of_local-slot.result c.local_of.result c.in_ok-first.first c.in_ok-own.own
    c.operand_of-from.ensures
    (c.deref.ensures.value ∙ c.in_ok-values.ensures)
    (c.known_behind-flow.ensures ∙ ap (known_behind c.args.said.now) c.place.ensures)
    c.slot_of_local-slot.ensures
    c.local_of.ensures
    c.in_ok-first.ensures
    c.in_ok-own.ensures)
    c.pair.ensures
