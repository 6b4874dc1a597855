-- Each way to go wrong is taken.
use Rattle.std.proofs.Common.{◌≡◌, true, false, refl}
use Rattle.std.specs.Prelude.{IsFalse, IsTrue}
use Rattle.dart_types.specs.FormedTable.{FormedTable}
use Rattle.dart_types.specs.Laws.{RowLaws}
use Rattle.dart_types.specs.Sub.{reflexivity}
use Rattle.dart_types.specs.SubTest.{sub}
use Rattle.dart_types.specs.Ty.{null}
use Rattle.core_ir.specs.Values.{int, bool}
use Rattle.core_machine.specs.Steps.{Kind, ReadUnassignedLocal, NullMember, NoMember, NullStore, BadStore, BadArgument, NotBool}
use Rattle.core_machine.specs.State.{Wrong, run_of}
use Rattle.core_machine.specs.GoingWrong.{bad_program, bad_steps}
use Rattle.core_machine.proofs.TypeLemmas.{null_not_class}

module _ (rows : FormedTable) (laws : RowLaws rows.table) (apart : IsFalse (sub rows.table int bool)) where
  -- null is no int, and an integer is one
  null_apart : sub rows.table null int ≡ false
  null_apart = null_not_class rows.table _

  integers_fit : sub rows.table int int ≡ true
  integers_fit = laws.sub_complete int int reflexivity

  pub bad_program_wrong : (kind : Kind) → run_of (bad_program rows kind) (bad_steps kind) ≡ Wrong kind
  bad_program_wrong ReadUnassignedLocal = refl
  bad_program_wrong NullMember = refl
  bad_program_wrong NoMember = refl
  bad_program_wrong NullStore = rw null_apart refl
  bad_program_wrong BadStore = rw apart refl
  bad_program_wrong BadArgument = refl
  bad_program_wrong NotBool = rw integers_fit refl
