use Rattle.std.proofs.Common.{◌≡◌, drop, map}
use Rattle.built_forms.specs.Meanings.{core_meaning, hidden_by}
use Rattle.built_forms.proofs.meaning.meanings_of.Given as goal

abbrev pub invariant-loop-word : goal.invariant-loop-word
invariant-loop-word l = hidden_by (drop l.word-index l.declared) l.meanings.items ≡ hidden_by l.declared (map (core_meaning l.narrow) l.words)
