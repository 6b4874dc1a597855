use Rattle.std.proofs.Common.{take}
use Rattle.std.specs.Prelude.{All}
use Rattle.dart_types.specs.WellFormed.{IsFormedClass}
use Rattle.dart_types.specs.Unions.{beside}
use Rattle.dart_types.proofs.row_checks.are_formed_classes.Given as goal

abbrev pub invariant-loop-row : goal.invariant-loop-row
invariant-loop-row l = All (IsFormedClass (beside l.below.table (record { classes = l.classes; vars = l.vars }))) (take l.row-index l.classes)
