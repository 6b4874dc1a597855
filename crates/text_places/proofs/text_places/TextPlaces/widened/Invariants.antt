use Rattle.std.proofs.Common.{◌≡◌, map, take}
use Rattle.text_places.proofs.text_places.TextPlaces.widened.Given as goal

abbrev pub invariant-loop-text : goal.invariant-loop-text
invariant-loop-text l = l.widened ≡ map (λ t. t.now) (take l.text-index l.texts)
