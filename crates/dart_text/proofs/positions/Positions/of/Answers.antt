use Rattle.dart_text.proofs.CursorLemmas.{on_start}
use Rattle.dart_text.proofs.positions.Positions.of.Goals as goal

pub invariant_of-result : goal.invariant_of-result
invariant_of-result c = (c.as_str.ensures.bounded, on_start c.as_str.result.now c.as_str.utf8)
