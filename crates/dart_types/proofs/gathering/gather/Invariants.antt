use Rattle.std.proofs.Common.{◌≡◌, ◌≤◌}
use Rattle.dart_types.specs.Sizes.{size_of}
use Rattle.dart_types.specs.Superinterfaces.{interface_of, AreOrdered}
use Rattle.dart_types.specs.Replacements.{replaced}
use Rattle.dart_types.specs.Gathering.{Adds}
use Rattle.dart_types.specs.declared.refusal.TheConstants.{NODE_LIMIT}
use Rattle.dart_types.proofs.Gathered.{First}
use Rattle.dart_types.proofs.gathering.gather.Given as goal

-- the first of the superinterfaces that aren't too large are in the list, with the replacements put in
abbrev pub invariant-loop-known : goal.invariant-loop-known
invariant-loop-known l =
    Adds (First (λ s t. (t ≡ replaced l.replacements (interface_of s)) × (size_of t ≤ NODE_LIMIT)) l.above l.known-index) l.initial.list.items l.list.items × AreOrdered l.list.items
