use Rattle.std.proofs.Common.{◌≡◌, map, take}
use Rattle.grammar.specs.Declarations.{listed}
use Rattle.parse_decl.proofs.directives.listed_names.Given as goal

abbrev pub invariant-loop-word : goal.invariant-loop-word
invariant-loop-word l = l.list.items ≡ map listed (take l.word-index l.words)
