use Rattle.std.proofs.Common.{◌&&◌, take}
use Rattle.std.specs.List.{list_any}
use Rattle.namespaces.specs.Ambiguities.{clash, is_brought}
use Rattle.namespaces.specs.BroughtNames.{AddsClashes}
use Rattle.namespaces.proofs.ambiguities.add_brought.Given as goal

-- the pairs so far
abbrev pub invariant-loop-pair : goal.invariant-loop-pair
invariant-loop-pair l = AddsClashes (λ p. list_any (λ q. is_brought l.library l.combinators q && clash p q) (take l.pair-index l.pairs)) l.initial.names.names l.names.names
