use Rattle.dart_types.proofs.NoRow.{no_superinterfaces}
use Rattle.dart_types.proofs.rows.Rows.superinterfaces.Goals as goal

-- a class without an entry has no row
pub returns-in-None : goal.returns-in-None
returns-in-None c = no_superinterfaces c.args.self.now.table c.args.class c.in-None.ensures
