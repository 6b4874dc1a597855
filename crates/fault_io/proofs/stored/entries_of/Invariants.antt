use Rattle.std.proofs.Common.{take}
use Rattle.fault_io.specs.Stored.{AreEntries}
use Rattle.fault_io.proofs.stored.entries_of.Given as goal

abbrev pub invariant-loop-file : goal.invariant-loop-file
invariant-loop-file l = AreEntries (take l.file-index l.files) l.folder l.entries.items
