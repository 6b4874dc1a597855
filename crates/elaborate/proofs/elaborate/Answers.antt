use Rattle.std.proofs.Common.{sym, ap, ◌∙◌}
use Rattle.dart_tree.specs.Tree.{empty_body, expression_body, native_body}
use Rattle.dart_tree.specs.View.{body_of}
use Rattle.elaborate.proofs.Sources.{is_block_of, no_block}
use Rattle.check_library.specs.Units.{outside_of}
use Rattle.elaborate.proofs.elaborate.Goals as goal

pub unreachable-requires : goal.unreachable-requires
unreachable-requires c =
    let faultless = c.requires.faultless in
    no_block (outside_of faultless.text) c.args.body.now (expression_body c.in-Expression.at c.in-Expression.value)
    (is_block_of faultless.text c.args.checked.now faultless.check c.args.body.now c.requires.body c.built_bodies_are_blocks.ensures.blocks)
    (ap body_of (sym c.in-Expression.is) ∙ c.body.view_is) (λ at statements is. cc)

pub unreachable-requires-in-Empty : goal.unreachable-requires-in-Empty
unreachable-requires-in-Empty c =
    let faultless = c.requires.faultless in
    no_block (outside_of faultless.text) c.args.body.now (empty_body c.in-Empty.at)
    (is_block_of faultless.text c.args.checked.now faultless.check c.args.body.now c.requires.body c.built_bodies_are_blocks.ensures.blocks)
    (ap body_of (sym c.in-Empty.is) ∙ c.body.view_is) (λ at statements is. cc)

pub unreachable-requires-in-Native : goal.unreachable-requires-in-Native
unreachable-requires-in-Native c =
    let faultless = c.requires.faultless in
    no_block (outside_of faultless.text) c.args.body.now (native_body c.in-Native.at)
    (is_block_of faultless.text c.args.checked.now faultless.check c.args.body.now c.requires.body c.built_bodies_are_blocks.ensures.blocks)
    (ap body_of (sym c.in-Native.is) ∙ c.body.view_is) (λ at statements is. cc)
