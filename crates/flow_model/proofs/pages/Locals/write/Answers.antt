use Rattle.std.proofs.Common.{◌≡◌, ◌<◌, ◌≤◌, ◌/◌, ◌++◌, length, List, ap, ◌∙◌, subst}
use Rattle.std.proofs.lemmas.Result.{on_ok_weaker}
use Rattle.flow_model.specs.declared.locals.Facts.{Facts}
use Rattle.flow_model.proofs.Paged.{paged, behind_within, written_behind, written_in_page}
use Rattle.flow_model.proofs.pages.Locals.write.Goals as goal

-- it stands behind the pages
pub put-requires : goal.put-requires
put-requires c =
    let count : c.len.result ≡ length c.self.inside.pages.value.items = c.len.ensures ∙ ap (λ v. v.len) c.deref.ensures ∙ c.self.inside.pages.value.ok.0 in
    let again : c.len-else-number-len.result ≡ length c.self.inside.pages.value.items = c.len-else-number-len.ensures ∙ ap (λ v. v.len) c.deref-else-number-len.ensures ∙ c.self.inside.pages.value.ok.0 in
    let past : length c.self.inside.pages.value.items ≤ c.args.place / 32 = subst (λ n. n ≤ c.args.place / 32) count c.if-number-len.false in
    behind_within c.self.inside.pages.value.items c.self.inside.last c.args.self.now c.self.invariant.0 c.self.view_is c.args.place c.len-else-number-len.result again past c.requires

pub returns-else-number-len-clause-ok : goal.returns-else-number-len-clause-ok
returns-else-number-len-clause-ok c =
    let count : c.len.result ≡ length c.self.inside.pages.value.items = c.len.ensures ∙ ap (λ v. v.len) c.deref.ensures ∙ c.self.inside.pages.value.ok.0 in
    let again : c.len-else-number-len.result ≡ length c.self.inside.pages.value.items = c.len-else-number-len.ensures ∙ ap (λ v. v.len) c.deref-else-number-len.ensures ∙ c.self.inside.pages.value.ok.0 in
    let past : length c.self.inside.pages.value.items ≤ c.args.place / 32 = subst (λ n. n ≤ c.args.place / 32) count c.if-number-len.false in
    on_ok_weaker c.put.result
    (λ is. ap (λ (l : List Facts). paged c.self.inside.pages.value.items ++ l) is ∙ written_behind c.self.inside.pages.value.items c.self.inside.last c.args.self.now c.self.invariant.0 c.self.view_is c.args.place c.len-else-number-len.result c.args.local again past)
    c.put.ensures.ok

-- it stands in a page
pub returns-then-number-len-clause-ok : goal.returns-then-number-len-clause-ok
returns-then-number-len-clause-ok c =
    let count : c.len.result ≡ length c.self.inside.pages.value.items = c.len.ensures ∙ ap (λ v. v.len) c.deref.ensures ∙ c.self.inside.pages.value.ok.0 in
    let within : c.args.place / 32 < length c.self.inside.pages.value.items = subst (λ n. c.args.place / 32 < n) count c.if-number-len.true in
    on_ok_weaker c.put_in_pages.result
    (λ is. ap (λ (l : List (List Facts)). paged l ++ c.self.inside.last) is ∙ written_in_page c.self.inside.pages.value.items c.self.inside.last c.args.self.now c.self.invariant.0 c.self.view_is c.args.place c.args.local within)
    c.put_in_pages.ensures.ok
