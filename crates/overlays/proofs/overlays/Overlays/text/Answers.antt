use Rattle.std.proofs.Common.{sym, ap, ◌∙◌, Some, List, ℕ}
use Rattle.overlays.specs.Tables.{text_in}
use Rattle.overlays.proofs.Places.{text_there, text_absent}
use Rattle.overlays.proofs.overlays.Overlays.text.Goals as goal

-- the text at the path's place is found
pub returns-in-Ok : goal.returns-in-Ok
returns-in-Ok c =
    let stands = rw (← c.self.view_is) at c.in-Ok.ensures.found in
    let there = text_there c.args.path.now c.self.inside.entries.items c.in-Ok.place c.index.result.now c.self.invariant stands in
    ap Some (c.text.ensures ∙ ap (λ (e : List ℕ × List ℕ). e.1) c.index.ensures) ∙ (sym there ∙ ap (text_in c.args.path.now) c.self.view_is)

-- the path stands nowhere
pub returns-in-Err : goal.returns-in-Err
returns-in-Err c = sym (text_absent c.args.path.now c.args.self.now _ c.in-Err.ensures.absent)
