use Rattle.namespaces.specs.AmbiguityLemmas.{ambiguous_in_any_order}
use Rattle.namespaces.proofs.laws.the_order_of_pairs_is_no_matter.Goals as goal

pub returns : goal.returns
returns c = ambiguous_in_any_order
