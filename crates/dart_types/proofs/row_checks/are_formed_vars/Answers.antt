use Rattle.std.proofs.Common.{arith}
use Rattle.dart_types.specs.WellFormed.{IsFormedVar}
use Rattle.dart_types.specs.Unions.{beside}
use Rattle.dart_types.proofs.RowTests.{all_next, all_done}
use Rattle.dart_types.proofs.Steps.{yes, granted}
use Rattle.dart_types.proofs.row_checks.are_formed_vars.Goals as goal

pub loop-row-preserved : goal.loop-row-preserved
loop-row-preserved c =
    all_next (IsFormedVar (beside c.args.below.now.table (record { classes = c.args.classes.now; vars = c.args.vars.now }))) c.args.vars.now c.loop-row.row-index c.row-item.result c.loop-row-test.true c.row-item.is c.loop-row.invariant (granted c.is_formed_var.ensures c.if-not-is_formed_var.false)

pub returns : goal.returns
returns c =
    yes (all_done (IsFormedVar (beside c.args.below.now.table (record { classes = c.args.classes.now; vars = c.args.vars.now }))) c.args.vars.now c.loop-row.row-index (omega arith) c.loop-row.invariant)
