use Rattle.std.proofs.lemmas.Bool.{false≢true}
use Rattle.packages_file.proofs.Parsed.{parsed, unparsed}
use Rattle.packages_file.proofs.read.parse.Goals as goal

pub returns-in-Ok : goal.returns-in-Ok
returns-in-Ok c = parsed _ _ c.in-Ok.ensures.ok.0 c.in-Ok.ensures.ok.1

pub returns-in-Err-2 : goal.returns-in-Err-2
returns-in-Err-2 c = unparsed _ (c.in-Err.ensures.err (λ memory. false≢true (c.if-is_memory.ensures.1 memory)))
