use Rattle.std.proofs.Common.{◌≡◌, take, fold}
use Rattle.namespaces.specs.Lookups.{with_pair}
use Rattle.namespaces.proofs.lookups.with_pairs.Given as goal

abbrev pub invariant-loop-pair : goal.invariant-loop-pair
invariant-loop-pair l = l.all ≡ fold (with_pair l.name) l.initial.all (take l.pair-index l.pairs)
