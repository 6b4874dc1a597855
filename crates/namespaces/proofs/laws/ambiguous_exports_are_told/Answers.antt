use Rattle.namespaces.specs.AmbiguityLemmas.{ambiguous_is_told}
use Rattle.namespaces.proofs.laws.ambiguous_exports_are_told.Goals as goal

pub returns : goal.returns
returns c = λ libraries all library earlier export h. ambiguous_is_told libraries all h library earlier export
