use Rattle.std.proofs.Common.{◌≡◌, ◌-◌, ◌∙◌, List, ap, get_or, sym, arith}
use Rattle.core_ir.specs.PointFacts.{PointFacts}
use Rattle.core_ir.specs.declared.pages.Page.{Page}
use Rattle.core_ir.proofs.Paged.{listed_in_page}
use Rattle.core_ir.proofs.facts.Facts.shared_at.Goals as goal

-- it lies in a page
pub returns-then-place-self : goal.returns-then-place-self
returns-then-place-self c =
    let counted = c.self.invariant.1 in
    let paged = c.self.invariant.2 in
    let before = c.if-place-self.true in
    let seen : c.deref-then-place-self-2.result.now ≡ c.self.inside.pages.value.items = c.deref-then-place-self-2.ensures.value ∙ ap (λ v. v.items) c.deref-then-place-self.ensures in
    let pages : c.deref.result.now.items ≡ c.self.inside.pages.value.items = ap (λ v. v.items) c.deref.ensures in
    listed_in_page Page (λ p. p.before) (λ p. p.facts.value.items) c.self.inside.pages.value.items c.deref-then-place-self-2.result.now c.self.inside.own.items c.args.self.now.listed c.args.place c.page_of.result c.index-page.result.now c.index.result.now
    counted (ap (λ (f : PointFacts). f.listed) c.self.view_is) seen (omega arith) c.page_of.ensures.within
    (c.index-page.ensures ∙ ap (λ (l : List Page). get_or l c.page_of.result c.index-page.result.now) (pages ∙ sym seen))
    (c.page_of.ensures.begins c.index-page.result.now)
    (c.page_of.ensures.ends c.index-page.result.now)
    (c.index.ensures ∙ ap (λ v. get_or v.items (c.args.place - c.index-page.result.now.before) c.index.result.now) c.deref-then-place-self-3.ensures)
