use Rattle.namespaces.specs.AmbiguityLemmas.{first_is_not}
use Rattle.namespaces.proofs.laws.the_first_export_is_not_ambiguous.Goals as goal

pub returns : goal.returns
returns c = first_is_not
