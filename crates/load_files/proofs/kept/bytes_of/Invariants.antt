use Rattle.std.proofs.Common.{◌≡◌, take}
use Rattle.load_files.specs.Kept.{bytes_of}
use Rattle.load_files.proofs.kept.bytes_of.Given as goal

abbrev pub invariant-loop-file : goal.invariant-loop-file
invariant-loop-file l = l.bytes ≡ bytes_of (take l.file-index l.kept)
