use Rattle.std.proofs.Common.{take}
use Rattle.std.proofs.lemmas.List.{take_more}
use Rattle.fault_io.proofs.StoredLemmas.{AreEntries-more}
use Rattle.fault_io.proofs.stored.entries_of.Goals as goal

pub loop-file-preserved : goal.loop-file-preserved
loop-file-preserved c =
    let files = c.args.files.now in
    let i = c.loop-file.file-index in
    let next = take_more files i c.file-item.result c.loop-file-test.true in
    let added = c.in_ok-add_entry_toward.ensures in
    let holds = rw c.as_str.ensures at added.holds in
    rw (next, ← c.file-item.is)
    (AreEntries-more (take i files) c.file-item.result c.args.folder.now c.loop-file.entries.items _ c.loop-file.invariant holds added.once)
