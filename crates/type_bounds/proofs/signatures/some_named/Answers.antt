use Rattle.std.proofs.Common.{◌∙◌, ap, List, length, nat_lt}
use Rattle.dart_types.specs.declared.types.NamedType.{NamedType}
use Rattle.type_bounds.proofs.SignatureTests.{some_named_of}
use Rattle.type_bounds.proofs.signatures.some_named.Goals as goal

pub returns : goal.returns
returns c = ap (λ (ns : List NamedType). nat_lt 0 (length ns)) c.as_slice.ensures.same ∙ some_named_of c.args.named.now
