use Rattle.std.proofs.Common.{map}
use Rattle.text_places.proofs.TableLemmas.{NoneTells}
use Rattle.text_places.proofs.text_index.TextIndex.place_of.Given as goal

abbrev pub invariant-loop-step : goal.invariant-loop-step
invariant-loop-step l = NoneTells l.self (map (λ t. t.now) l.texts) l.text l.step
