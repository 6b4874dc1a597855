use Rattle.std.proofs.Common.{◌≡◌, take}
use Rattle.std.specs.Prelude.{count_by}
use Rattle.protocol_rules.specs.Files.{is_analyzed}
use Rattle.protocol_rules.proofs.analyzed.count_stored.Given as goal

abbrev pub invariant-loop-file : goal.invariant-loop-file
invariant-loop-file l = l.count ≡ count_by (λ file. is_analyzed l.contents file.0) (take l.file-index l.file-items)
