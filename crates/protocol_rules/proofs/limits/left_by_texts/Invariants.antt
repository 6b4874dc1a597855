use Rattle.std.proofs.Common.{◌≡◌, ◌+◌, take}
use Rattle.load_files.specs.declared.loading.TheConstants.{MAX_BYTES}
use Rattle.protocol_rules.specs.Limits.{bytes_in}
use Rattle.protocol_rules.proofs.limits.left_by_texts.Given as goal

abbrev pub invariant-loop-entry : goal.invariant-loop-entry
invariant-loop-entry l = l.left + bytes_in (take l.entry-index l.entry-items) ≡ MAX_BYTES
