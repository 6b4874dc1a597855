use Rattle.std.proofs.Common.{sym, ap, ◌∙◌, Some, List, ℕ}
use Rattle.load_files.specs.Tables.{contents_at}
use Rattle.load_files.specs.declared.contents.FileContents.{FileContents}
use Rattle.load_files.proofs.Places.{contents_there, contents_absent}
use Rattle.load_files.proofs.table.Snapshot.contents.Goals as goal

-- the file at the path's place is found
pub returns-in-Ok : goal.returns-in-Ok
returns-in-Ok c =
    let stands = rw (← c.self.view_is) at c.in-Ok.ensures.found in
    let there = contents_there c.args.path.now c.self.inside.files.items c.in-Ok.place c.index.result.now c.self.invariant stands in
    ap Some (c.contents.ensures ∙ ap (λ (f : List ℕ × FileContents). f.1) c.index.ensures) ∙ (sym there ∙ ap (contents_at c.args.path.now) c.self.view_is)

-- the path stands nowhere
pub returns-in-Err : goal.returns-in-Err
returns-in-Err c = sym (contents_absent c.args.path.now c.args.self.now _ c.in-Err.ensures.absent)
