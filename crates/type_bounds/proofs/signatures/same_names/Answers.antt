use Rattle.std.proofs.Common.{sym}
use Rattle.type_bounds.proofs.SignatureTests.{names_differ}
use Rattle.type_bounds.proofs.signatures.same_names.Goals as goal

pub returns-then-named-others : goal.returns-then-named-others
returns-then-named-others c = sym (names_differ c.args.named.now c.args.others.now c.if-named-others.true)
