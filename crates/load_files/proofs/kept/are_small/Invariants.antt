use Rattle.std.proofs.Common.{◌≡◌, ◌+◌, take}
use Rattle.load_files.specs.Kept.{bytes_of}
use Rattle.load_files.specs.declared.loading.TheConstants.{MAX_BYTES}
use Rattle.load_files.proofs.kept.are_small.Given as goal

abbrev pub invariant-loop-file : goal.invariant-loop-file
invariant-loop-file l = l.left + bytes_of (take l.file-index l.kept) ≡ MAX_BYTES
