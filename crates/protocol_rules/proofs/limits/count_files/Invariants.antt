use Rattle.std.proofs.Common.{◌≡◌, not, take}
use Rattle.std.specs.Prelude.{count_by}
use Rattle.load_files.specs.Kept.{is_kept}
use Rattle.protocol_rules.specs.Limits.{kept_in}
use Rattle.protocol_rules.proofs.limits.count_files.Given as goal

abbrev pub invariant-loop-file : goal.invariant-loop-file
invariant-loop-file l = l.count ≡ count_by (λ file. not (is_kept file.0 (kept_in l.overlays))) (take l.file-index l.file-items)
