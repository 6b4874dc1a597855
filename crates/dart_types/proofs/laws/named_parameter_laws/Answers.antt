use Rattle.dart_types.proofs.NamedParams.{required_at, required_from}
use Rattle.dart_types.proofs.NamesFound.{required_found}
use Rattle.dart_types.proofs.laws.named_parameter_laws.Goals as goal

pub returns : goal.returns
returns c = record {
  required = λ ts us. ((λ h m k. required_at ts us m h k), required_from ts us);
  found = λ ns m n order e. required_found ns order m n e;
}
