use Rattle.std.proofs.Common.{◌≡◌, ◌++◌, map}
use Rattle.dart_types.proofs.entries.entries_of.Given as goal

abbrev pub invariant-loop-row : goal.invariant-loop-row
invariant-loop-row l = map (λ e. e.row) l.entries.items ++ l.row-iterator.rest.items ≡ l.fn.rows.items
