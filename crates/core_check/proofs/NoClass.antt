-- Rows of no class leave no superinterface out.
use Rattle.std.proofs.Common.{◌≡◌, List, [], Some, None, ap}
use Rattle.std.specs.Prelude.{find}
use Rattle.dart_types.specs.Same.{same_class}
use Rattle.dart_types.specs.Superinterfaces.{direct, further, LeavesNothingOut}
use Rattle.dart_types.specs.Tables.{Table, class_of}
use Rattle.dart_types.specs.declared.ids.ClassId.{ClassId}
use Rattle.dart_types.specs.declared.class_rows.ClassRow.{ClassRow}

no_row : (table : Table) (c : ClassId) (row : ClassRow) → table.classes ≡ [] → class_of table c ≡ Some row → ⊥
no_row table c row none is = let e : class_of table c ≡ None = ap (λ (rows : List ClassRow). find (λ r. same_class r.id c) rows) none in cc

pub nothing_out : (table : Table) → table.classes ≡ [] → LeavesNothingOut table
nothing_out table none c v (direct {row = row} is has) = absurd (no_row table c row none is)
nothing_out table none c v (further {d = d} {row = row} above is has) = absurd (no_row table d row none is)
