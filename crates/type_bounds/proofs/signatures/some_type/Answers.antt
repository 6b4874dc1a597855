use Rattle.std.proofs.Common.{◌∙◌, ap, List, length, nat_lt}
use Rattle.dart_types.specs.Ty.{Ty}
use Rattle.type_bounds.proofs.SignatureTests.{some_of}
use Rattle.type_bounds.proofs.signatures.some_type.Goals as goal

pub returns : goal.returns
returns c = ap (λ (ts : List Ty). nat_lt 0 (length ts)) c.as_slice.ensures ∙ some_of c.args.types.now
