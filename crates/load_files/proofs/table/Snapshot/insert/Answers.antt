use Rattle.std.proofs.Common.{sym, ap, ◌∙◌, subst}
use Rattle.std.specs.List.{insert}
use Rattle.load_files.specs.Contents.{contents_of}
use Rattle.load_files.specs.Tables.{IsInOrder, with_contents}
use Rattle.load_files.proofs.Places.{order-with, with_absent}
use Rattle.load_files.proofs.table.Snapshot.insert.Goals as goal

-- the new file goes into the gap
pub returns-clause-ok : goal.returns-clause-ok
returns-clause-ok c =
    let gap = rw (← c.self.view_is) at c.requires in
    c.in_ok-insert.ensures.items ∙ (ap (insert c.self.inside.files.items c.args.place) c.in_ok-file.ensures
    ∙ (sym (with_absent c.args.path.now (contents_of c.args.bytes.now) c.self.inside.files.items c.args.place gap) ∙ ap (with_contents c.args.path.now (contents_of c.args.bytes.now)) c.self.view_is))

-- which keeps the order
pub invariant_of-self-2 : goal.invariant_of-self-2
invariant_of-self-2 c =
    subst IsInOrder (ap (with_contents c.args.path.now (contents_of c.args.bytes.now)) c.self.view_is ∙ sym (returns-clause-ok c))
    (order-with c.args.path.now (contents_of c.args.bytes.now) c.self.inside.files.items c.self.invariant)
