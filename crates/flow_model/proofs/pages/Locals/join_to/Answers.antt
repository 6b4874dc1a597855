use Rattle.std.proofs.Common.{◌≡◌, List, ap, ◌∙◌, subst}
use Rattle.flow_model.specs.declared.locals.Facts.{Facts}
use Rattle.flow_model.specs.Meeting.{JoinTo}
use Rattle.flow_model.proofs.Meetings.{both_join}
use Rattle.flow_model.proofs.Paged.{paged}
use Rattle.flow_model.proofs.pages.Locals.join_to.Goals as goal

-- those in pages, and those behind them
pub returns-then-pages_join_to : goal.returns-then-pages_join_to
returns-then-pages_join_to c = λ last.
    let path = c.args.path in
    let mine = c.self.inside.pages.value.items in
    let others = c.other.inside.pages.value.items in
    let seen : c.deref-2.result.now ≡ mine = c.deref-2.ensures.value ∙ ap (λ v. v.items) c.deref.ensures in
    let seen_others : c.deref-4.result.now ≡ others = c.deref-4.ensures.value ∙ ap (λ v. v.items) c.deref-3.ensures in
    let listed : JoinTo path (paged c.deref-2.result.now) (paged c.deref-4.result.now) = c.pages_join_to.ensures c.if-pages_join_to.true in
    let half : JoinTo path (paged mine) (paged c.deref-4.result.now) = subst (λ (ps : List (List Facts)). JoinTo path (paged ps) (paged c.deref-4.result.now)) seen listed in
    let pages : JoinTo path (paged mine) (paged others) = subst (λ (qs : List (List Facts)). JoinTo path (paged mine) (paged qs)) seen_others half in
    let at_end : JoinTo path c.locals.result.now c.locals-then-pages_join_to.result.now = c.all_join_to.ensures last in
    let half_end : JoinTo path c.self.inside.last c.locals-then-pages_join_to.result.now = subst (λ (ls : List Facts). JoinTo path ls c.locals-then-pages_join_to.result.now) c.locals.ensures at_end in
    let behind : JoinTo path c.self.inside.last c.other.inside.last = subst (λ (ls : List Facts). JoinTo path c.self.inside.last ls) c.locals-then-pages_join_to.ensures half_end in
    rw (← c.self.view_is, ← c.other.view_is) (both_join path (paged mine) (paged others) c.self.inside.last c.other.inside.last pages behind)
