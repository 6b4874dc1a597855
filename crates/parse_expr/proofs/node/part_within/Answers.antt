-- A type behind `is` or `as`.
use Rattle.std.proofs.Common.{◌+◌, suc}
use Rattle.grammar.specs.Descents.{lower}
use Rattle.parse_expr.specs.Parts.{tree_of}
use Rattle.parse_expr.proofs.Types.{reads_tested}
use Rattle.parse_expr.proofs.node.part_within.Goals as goal

pub returns-in-Tested-clause-reading : goal.returns-in-Tested-clause-reading
returns-in-Tested-clause-reading g c =
    reads_tested (λ x. (tree_of x.0, x.2.now)) c.tested_node.result (lower (suc (g.B.Below.room c.args.below.now))) c.args.part c.in-Tested.setting c.args.tokens.now c.in-Tested.is c.tested_node.ensures.reading
