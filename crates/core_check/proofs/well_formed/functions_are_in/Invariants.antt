use Rattle.std.proofs.Common.{◌≡◌, ◌<◌, ℕ}
use Rattle.std.specs.Prelude.{Some, slice_get}
use Rattle.core_ir.specs.Program.{Function}
use Rattle.core_check.specs.WellFormed.{IsFunctionOf}
use Rattle.core_check.proofs.well_formed.functions_are_in.Given as goal

abbrev pub invariant-loop-number : goal.invariant-loop-number
invariant-loop-number l = (n : ℕ) (g : Function) → n < l.number → slice_get l.program.functions n ≡ Some g → IsFunctionOf l.program n g
