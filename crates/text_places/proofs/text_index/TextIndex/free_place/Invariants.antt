use Rattle.text_places.specs.Tables.{AreTaken}
use Rattle.text_places.proofs.text_index.TextIndex.free_place.Given as goal

abbrev pub invariant-loop-step : goal.invariant-loop-step
invariant-loop-step l = AreTaken l.self.slots.items l.self.mask l.hash l.count l.step
