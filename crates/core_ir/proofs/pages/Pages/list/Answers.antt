use Rattle.std.proofs.Common.{◌≡◌, List, length, sym, subst, arith, ◌∙◌, ap, take}
use Rattle.std.specs.List.{flat_map}
use Rattle.std.proofs.lemmas.List.{length-take-le}
use Rattle.core_ir.specs.PointFacts.{AreCounted}
use Rattle.core_ir.specs.declared.facts.SlotFact.{SlotFact}
use Rattle.core_ir.specs.declared.pages.Page.{Page}
use Rattle.core_ir.proofs.Paged.{counted_more, pages_more}
use Rattle.core_ir.proofs.pages.Pages.list.Goals as goal

-- a page more
pub loop-start-preserved : goal.loop-start-preserved
loop-start-preserved c =
    let begins = c.end_of_page-end.ensures.begins in
    let before : c.loop-start.start ≡ length (flat_map (λ (p : Page). p.facts.value.items) c.loop-start.pages.items) =
    sym (ap (λ (l : List SlotFact). length l) c.loop-start.invariant.facts ∙ length-take-le c.loop-start.start c.args.listed.now c.loop-start.invariant.within) in
    record {
      within = c.end_of_page-end.ensures.within;
      facts = subst (λ (l : List Page). flat_map (λ (p : Page). p.facts.value.items) l ≡ take c.end_of_page-end.result c.args.listed.now) (sym c.in_ok-push.ensures.items)
          (pages_more Page (λ p. p.before) (λ p. p.facts.value.items) c.loop-start.pages.items (record { before = c.loop-start.start; facts = c.in_ok-facts.facts }) c.args.listed.now c.loop-start.start c.end_of_page-end.result (omega arith) c.loop-start.invariant.facts c.in_ok-facts.ensures);
      counted = subst (AreCounted (λ (p : Page). p.before) (λ (p : Page). p.facts.value.items)) (sym c.in_ok-push.ensures.items)
          (counted_more Page (λ p. p.before) (λ p. p.facts.value.items) c.loop-start.pages.items (record { before = c.loop-start.start; facts = c.in_ok-facts.facts }) c.loop-start.invariant.counted before);
    }
