use Rattle.std.proofs.Common.{◌≡◌, drop}
use Rattle.overlays.specs.Applied.{edited_by}
use Rattle.overlays.proofs.change.edited_by.Given as goal

abbrev pub invariant-loop-edit : goal.invariant-loop-edit
invariant-loop-edit l = edited_by l.edits l.text ≡ edited_by (drop l.edit-index l.edits) l.edited
