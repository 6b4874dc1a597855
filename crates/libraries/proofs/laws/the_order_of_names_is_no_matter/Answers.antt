use Rattle.libraries.specs.AmbiguousLemmas.{ambiguous_in_any_order_of}
use Rattle.libraries.proofs.laws.the_order_of_names_is_no_matter.Goals as goal

pub returns : goal.returns
returns c = ambiguous_in_any_order_of
