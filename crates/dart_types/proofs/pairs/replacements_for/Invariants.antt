use Rattle.std.proofs.Common.{◌≡◌, take}
use Rattle.dart_types.specs.Replacements.{pairs_of}
use Rattle.dart_types.proofs.Replacing.{settled_pairs, paired}
use Rattle.dart_types.proofs.pairs.replacements_for.Given as goal

-- the parameters so far with their arguments, in normal form
abbrev pub invariant-loop-i : goal.invariant-loop-i
invariant-loop-i l = pairs_of l.formed.items ≡ settled_pairs (take l.i (paired l.params l.args))
