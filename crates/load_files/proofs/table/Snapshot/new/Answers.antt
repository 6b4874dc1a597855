use Rattle.std.proofs.Common.{subst, sym}
use Rattle.load_files.specs.Tables.{IsInOrder}
use Rattle.load_files.proofs.table.Snapshot.new.Goals as goal

-- no files are in order
pub invariant_of-result : goal.invariant_of-result
invariant_of-result c = subst IsInOrder (sym c.new.ensures.items) tt
