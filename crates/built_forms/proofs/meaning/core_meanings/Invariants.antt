use Rattle.std.proofs.Common.{◌≡◌, map, take}
use Rattle.built_forms.specs.Meanings.{core_meaning}
use Rattle.built_forms.proofs.meaning.core_meanings.Given as goal

abbrev pub invariant-loop-word : goal.invariant-loop-word
invariant-loop-word l = l.meanings.items ≡ map (core_meaning l.narrow) (take l.word-index l.words)
