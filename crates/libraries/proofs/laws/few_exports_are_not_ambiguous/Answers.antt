use Rattle.libraries.specs.AmbiguousLemmas.{few_are_not_ambiguous}
use Rattle.libraries.proofs.laws.few_exports_are_not_ambiguous.Goals as goal

pub returns : goal.returns
returns c = few_are_not_ambiguous
