use Rattle.std.proofs.Common.{◌≡◌, ◌<◌, ◌≤◌, ◌-◌, ◌++◌, length, get_or, take, List, [], sym, ap, ◌∙◌, subst, arith, All}
use Rattle.std.proofs.lemmas.List.{length-take}
use Rattle.std.proofs.lemmas.List.Elements.{All-take}
use Rattle.std.proofs.lemmas.Result.{on_ok_weaker}
use Rattle.flow_model.specs.declared.locals.Facts.{Facts}
use Rattle.flow_model.proofs.Paged.{IsFull, paged, popped, popped_page}
use Rattle.flow_model.proofs.pages.Locals.pop.Goals as goal

-- of those behind the pages
pub returns-then-not-is_empty-clause-ok : goal.returns-then-not-is_empty-clause-ok
returns-then-not-is_empty-clause-ok c =
    let seen : length c.locals.result.now ≡ length c.self.inside.last = ap length c.locals.ensures in
    let some : 0 < length c.self.inside.last = grind (arith, c.if-not-is_empty.true, c.is_empty.ensures, seen) in
    on_ok_weaker c.pop.result
    (λ is. ap (λ (l : List Facts). paged c.self.inside.pages.value.items ++ l) is ∙ popped c.self.inside.pages.value.items c.self.inside.last c.args.self.now c.self.invariant.0 c.self.view_is some)
    c.pop.ensures.ok

-- the pages but the last are full
pub invariant_of-self-in-Some : goal.invariant_of-self-in-Some
invariant_of-self-in-Some c =
    let pages = c.self.inside.pages.value.items in
    let seen : c.deref-in-Some-2.result.now ≡ pages = c.deref-in-Some-2.ensures.value ∙ ap (λ v. v.items) c.deref-in-Some.ensures in
    let made : c.in_ok-self-inside-in-Some.field-0.value.items ≡ take (length c.deref-in-Some-2.result.now - 1) c.deref-in-Some-2.result.now = c.in_ok-self-inside-in-Some.ensures in
    let before : c.in_ok-self-inside-in-Some.field-0.value.items ≡ take (length pages - 1) pages = made ∙ ap (λ (l : List (List Facts)). take (length l - 1) l) seen in
    subst (λ (l : List (List Facts)). All IsFull l × (length l ≤ 134217728)) (sym before)
    (All-take IsFull (length pages - 1) pages c.self.invariant.0, grind (arith, length-take, c.self.invariant.1))

-- of the last page
pub returns-in_ok-self-inside-in-Some-clause-ok : goal.returns-in_ok-self-inside-in-Some-clause-ok
returns-in_ok-self-inside-in-Some-clause-ok c =
    let pages = c.self.inside.pages.value.items in
    let seen : c.deref-in-Some-2.result.now ≡ pages = c.deref-in-Some-2.ensures.value ∙ ap (λ v. v.items) c.deref-in-Some.ensures in
    let read : c.deref-2.result.now ≡ pages = c.deref-2.ensures.value ∙ ap (λ v. v.items) c.deref.ensures in
    let made : c.in_ok-self-inside-in-Some.field-0.value.items ≡ take (length c.deref-in-Some-2.result.now - 1) c.deref-in-Some-2.result.now = c.in_ok-self-inside-in-Some.ensures in
    let before : c.in_ok-self-inside-in-Some.field-0.value.items ≡ take (length pages - 1) pages = made ∙ ap (λ (l : List (List Facts)). take (length l - 1) l) seen in
    let some : 0 < length pages = subst (λ (l : List (List Facts)). 0 < length l) read c.in-Some.ensures.item.3.0 in
    let shared : c.in_ok-last-in-Some.last ≡ c.in-Some.page.now = c.in_ok-last-in-Some.ensures in
    let page : c.in_ok-last-in-Some.last ≡ get_or pages (length pages - 1) [] = shared ∙ c.in-Some.ensures.item.3.1 [] ∙ ap (λ (l : List (List Facts)). get_or l (length l - 1) []) read in
    let shorter : c.pop-in-Some.new.self ≡ take (length c.in_ok-last-in-Some.last - 1) c.in_ok-last-in-Some.last = c.in_ok-pop-in-Some.ensures.ok in
    let none : length c.self.inside.last ≡ 0 = ap length (sym c.locals.ensures) ∙ grind (arith, c.if-not-is_empty.false, c.is_empty.ensures) in
    ap (λ (l : List Facts). paged c.in_ok-self-inside-in-Some.field-0.value.items ++ l) shorter
    ∙ popped_page pages c.self.inside.last c.args.self.now c.self.invariant.0 c.self.view_is c.in_ok-self-inside-in-Some.field-0.value.items c.in_ok-last-in-Some.last none some before page
