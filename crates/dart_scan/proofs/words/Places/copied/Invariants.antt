use Rattle.std.proofs.Common.{◌≡◌, map, take}
use Rattle.dart_scan.proofs.words.Places.copied.Given as goal

abbrev pub invariant-loop-word : goal.invariant-loop-word
invariant-loop-word l = l.words.items ≡ map (λ word. word.now) (take l.word-index l.lent)
