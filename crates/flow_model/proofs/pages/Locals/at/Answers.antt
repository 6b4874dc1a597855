use Rattle.std.proofs.Common.{◌≡◌, ◌≤◌, ◌<◌, ◌/◌, ◌%◌, ◌-◌, ◌*◌, length, get_or, List, [], sym, ap, ◌∙◌, subst, arith}
use Rattle.flow_model.specs.declared.locals.Facts.{Facts}
use Rattle.flow_model.proofs.Paged.{behind_within, read_behind, read_in_page}
use Rattle.flow_model.proofs.pages.Locals.at.Goals as goal

-- it stands behind the pages
pub bounds-locals-place-in-None : goal.bounds-locals-place-in-None
bounds-locals-place-in-None c =
    let count : c.len.result ≡ length c.self.inside.pages.value.items = c.len.ensures ∙ ap (λ v. v.len) c.deref-in-None.ensures ∙ c.self.inside.pages.value.ok.0 in
    let seen : c.deref-2.result.now ≡ c.self.inside.pages.value.items = c.deref-2.ensures.value ∙ ap (λ v. v.items) c.deref.ensures in
    let past : length c.self.inside.pages.value.items ≤ c.args.place / 32 = subst (λ (l : List (List Facts)). length l ≤ c.args.place / 32) seen c.in-None.ensures.lookup.3 in
    subst (λ (l : List Facts). c.args.place - c.len.result * 32 < length l) (sym c.locals-in-None.ensures)
    (behind_within c.self.inside.pages.value.items c.self.inside.last c.args.self.now c.self.invariant.0 c.self.view_is c.args.place c.len.result count past c.requires)

pub offset_bounds-locals-place-in-None : goal.offset_bounds-locals-place-in-None
offset_bounds-locals-place-in-None c =
    let lt = bounds-locals-place-in-None c in
    omega (arith, lt, c.locals-in-None.type_inv.1)

pub returns-in-None : goal.returns-in-None
returns-in-None c =
    let count : c.len.result ≡ length c.self.inside.pages.value.items = c.len.ensures ∙ ap (λ v. v.len) c.deref-in-None.ensures ∙ c.self.inside.pages.value.ok.0 in
    let seen : c.deref-2.result.now ≡ c.self.inside.pages.value.items = c.deref-2.ensures.value ∙ ap (λ v. v.items) c.deref.ensures in
    let past : length c.self.inside.pages.value.items ≤ c.args.place / 32 = subst (λ (l : List (List Facts)). length l ≤ c.args.place / 32) seen c.in-None.ensures.lookup.3 in
    let found = c.index-locals-place-in-None.result in
    c.index-locals-place-in-None.is
    ∙ ap (λ (l : List Facts). get_or l (c.args.place - c.len.result * 32) found) c.locals-in-None.ensures
    ∙ read_behind c.self.inside.pages.value.items c.self.inside.last c.args.self.now c.self.invariant.0 c.self.view_is c.args.place c.len.result found count past

-- it stands in a page
pub returns-in-Some : goal.returns-in-Some
returns-in-Some c =
    let seen : c.deref-2.result.now ≡ c.self.inside.pages.value.items = c.deref-2.ensures.value ∙ ap (λ v. v.items) c.deref.ensures in
    let within : c.args.place / 32 < length c.self.inside.pages.value.items = subst (λ (l : List (List Facts)). c.args.place / 32 < length l) seen c.in-Some.ensures.lookup.3.0 in
    let page : c.locals.result.now ≡ get_or c.self.inside.pages.value.items (c.args.place / 32) [] =
    c.locals.ensures ∙ c.in-Some.ensures.lookup.3.1 [] ∙ ap (λ (l : List (List Facts)). get_or l (c.args.place / 32) []) seen in
    let found = c.index-locals-place.result in
    c.index-locals-place.is
    ∙ ap (λ (l : List Facts). get_or l (c.args.place % 32) found) page
    ∙ read_in_page c.self.inside.pages.value.items c.self.inside.last c.args.self.now c.self.invariant.0 c.self.view_is c.args.place found within
