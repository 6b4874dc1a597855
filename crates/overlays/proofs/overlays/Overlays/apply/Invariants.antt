use Rattle.std.proofs.Common.{◌≡◌, drop}
use Rattle.overlays.specs.Applied.{applied}
use Rattle.overlays.proofs.overlays.Overlays.apply.Given as goal

abbrev pub invariant-loop-file : goal.invariant-loop-file
invariant-loop-file l = applied l.files l.self ≡ applied (drop l.file-index l.files) l.changed
