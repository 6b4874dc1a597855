use Rattle.std.proofs.Common.{◌≡◌, take}
use Rattle.dart_types.specs.Replacements.{pairs_of}
use Rattle.dart_types.proofs.Replacing.{settled_pairs}
use Rattle.dart_types.proofs.pairs.replacements_of.Given as goal

-- the pairs so far, in normal form
abbrev pub invariant-loop-pair : goal.invariant-loop-pair
invariant-loop-pair l = pairs_of l.formed.items ≡ settled_pairs (take l.pair-index l.with)
