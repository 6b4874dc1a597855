use Rattle.std.proofs.Common.{◌≡◌, map, take}
use Rattle.libraries.specs.Heads.{head_of}
use Rattle.libraries.proofs.heads.heads_of.Given as goal

abbrev pub invariant-loop-aims : goal.invariant-loop-aims
invariant-loop-aims l = l.heads.items ≡ map head_of (take l.aims-index l.all)
