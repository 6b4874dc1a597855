use Rattle.std.proofs.Common.{◌≡◌, take}
use Rattle.protocol_rules.specs.Limits.{kept_in}
use Rattle.protocol_rules.proofs.contents.kept_in.Given as goal

abbrev pub invariant-loop-entry : goal.invariant-loop-entry
invariant-loop-entry l = l.kept.items ≡ kept_in (take l.entry-index l.entry-items)
