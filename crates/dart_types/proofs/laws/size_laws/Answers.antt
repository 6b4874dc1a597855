use Rattle.dart_types.proofs.Replacing.{size_marked, size_unmarked}
use Rattle.dart_types.proofs.laws.size_laws.Goals as goal

pub returns : goal.returns
returns c = record { marked = size_marked; unmarked = size_unmarked }
