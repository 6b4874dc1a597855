use Rattle.std.proofs.Common.{◌≡◌, ◌&&◌, take}
use Rattle.std.specs.Prelude.{count_by}
use Rattle.protocol_rules.specs.Files.{is_analyzed, is_new}
use Rattle.protocol_rules.proofs.analyzed.count_new.Given as goal

abbrev pub invariant-loop-entry : goal.invariant-loop-entry
invariant-loop-entry l = l.count ≡ count_by (λ overlay. is_new l.contents.snapshot overlay && is_analyzed l.contents overlay.0) (take l.entry-index l.entry-items)
