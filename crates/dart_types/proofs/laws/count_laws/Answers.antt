use Rattle.dart_types.proofs.RowTests.{count-types_of}
use Rattle.dart_types.proofs.NormalForms.{count-normal_all}
use Rattle.dart_types.proofs.Substitutes.{count-put_all}
use Rattle.dart_types.proofs.laws.count_laws.Goals as goal

pub returns : goal.returns
returns c = record { listed = count-types_of; normal = count-normal_all; put = count-put_all }
