use Rattle.std.proofs.Common.{length, ap, ◌∙◌}
use Rattle.flow_model.proofs.Paged.{listed_length}
use Rattle.flow_model.proofs.pages.Locals.len.Goals as goal

-- those of the pages and those behind
pub returns : goal.returns
returns c =
    listed_length c.self.inside.pages.value.items c.self.inside.last c.args.self.now c.self.invariant.0 c.self.view_is c.len.result (length c.locals.result.now)
    (c.len.ensures ∙ ap (λ v. v.len) c.deref.ensures ∙ c.self.inside.pages.value.ok.0) (ap length c.locals.ensures)
