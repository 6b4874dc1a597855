use Rattle.std.proofs.Common.{◌≡◌, ◌≤◌, drop, length}
use Rattle.dart_types.specs.Named.{named_of}
use Rattle.dart_types.specs.Sub.{required_in}
use Rattle.dart_types.proofs.Names.{AllBefore}
use Rattle.dart_types.proofs.params.requires_no_more.Given as goal

-- what is left decides, and the others that were passed have names before those that are left
abbrev pub invariant-loop-i : goal.invariant-loop-i
invariant-loop-i l =
    (required_in (named_of (drop l.i l.named)) (named_of l.others) ≡ required_in (named_of l.named) (named_of l.others)) × AllBefore l.others l.from l.named l.i × (l.from ≤ length l.others)
