-- A class without a row has no superinterface.
use Rattle.std.proofs.Common.{◌≡◌, [], None, arith}
use Rattle.dart_types.specs.Ty.{Ty}
use Rattle.dart_types.specs.Tables.{Table, class_of}
use Rattle.dart_types.specs.Superinterfaces.{Inherits, supertype, handed_on, AreSuperinterfaces}
use Rattle.dart_types.specs.declared.ids.ClassId.{ClassId}

module _ (table : Table) (c : ClassId) (e : class_of table c ≡ None) where
  none_above : {v : Ty} → Inherits table c v → ⊥
  none_above (supertype row r i) = cc
  none_above (handed_on row above r i r' h small) = cc

  pub no_superinterfaces : AreSuperinterfaces table c []
  no_superinterfaces = record {
    every = λ v h. absurd (none_above h.0);
    no_other = λ s i. absurd (omega (arith, i.1));
    in_order = λ i j d lt within. absurd (omega arith);
    once = λ i j d lt within. absurd (omega arith);
  }
