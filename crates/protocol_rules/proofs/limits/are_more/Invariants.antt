use Rattle.std.proofs.Common.{◌≡◌, ◌+◌, take}
use Rattle.std.specs.Prelude.{sum_by}
use Rattle.load_files.specs.Contents.{size_of}
use Rattle.protocol_rules.proofs.limits.are_more.Given as goal

abbrev pub invariant-loop-file : goal.invariant-loop-file
invariant-loop-file l = l.left + sum_by (λ file. size_of file.1) (take l.file-index l.file-items) ≡ l.most
