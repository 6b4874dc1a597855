use Rattle.std.proofs.Common.{◌≡◌, [], take, fold}
use Rattle.libraries.specs.Files.{with_file}
use Rattle.libraries.proofs.files.paths_of.Given as goal

abbrev pub invariant-loop-file : goal.invariant-loop-file
invariant-loop-file l = l.paths ≡ fold with_file [] (take l.file-index l.files)
