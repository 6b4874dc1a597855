use Rattle.std.proofs.Common.{◌≡◌, ◌≢◌, List, length, refl, sym, ap, ◌∙◌, subst, arith}
use Rattle.std.proofs.lemmas.Bool.{eqb-true, eqb-false}
use Rattle.core_ir.specs.declared.facts.SlotFact.{SlotFact}
use Rattle.core_ir.proofs.Puts.{put_last, put_is_set, put_is_insert, lesser_before, none_lesser}
use Rattle.core_ir.proofs.facts.put_in.Goals as goal

-- behind all that are listed
pub returns-in_ok-push : goal.returns-in_ok-push
returns-in_ok-push c =
    let at_end : c.place_of-place.result ≡ length c.args.listed.now.items = c.if-place-len.true ∙ c.len.ensures ∙ c.args.listed.now.ok.0 in
    let before = lesser_before c.args.listed.now.items c.deref.result.now c.args.fact c.fact.result.now c.place_of-place.result c.deref.ensures.value c.fact.ensures c.place_of-place.ensures.before in
    c.in_ok-push.ensures.items ∙ sym (put_last c.args.listed.now.items c.args.fact (λ k d lt. before k d (omega arith)))

-- in place of the fact there
pub returns-then-eq : goal.returns-then-eq
returns-then-eq c =
    let count : c.len.result ≡ length c.args.listed.now.items = c.len.ensures ∙ c.args.listed.now.ok.0 in
    let seen : length c.deref.result.now ≡ length c.args.listed.now.items = ap (λ (l : List SlotFact). length l) c.deref.ensures.value in
    let le = c.place_of-place.ensures.within in
    let apart : c.place_of-place.result ≢ c.len.result = c.if-place-len.false in
    let slots : c.index.result.now.slot.0 ≡ c.args.fact.slot.0 =
    ap (λ (f : SlotFact). f.slot.0) (sym c.fact-else-place-len.ensures) ∙ eqb-true c.fact-else-place-len.result.now.slot.0 c.fact.result.now.slot.0 (sym c.eq.ensures ∙ c.if-eq.true) ∙ ap (λ (f : SlotFact). f.slot.0) c.fact.ensures in
    put_is_set c.args.fact c.args.listed.now.items c.args.listed.now.items c.place_of-place.result c.index.result.now refl c.index.ensures (omega arith)
    (lesser_before c.args.listed.now.items c.deref.result.now c.args.fact c.fact.result.now c.place_of-place.result c.deref.ensures.value c.fact.ensures c.place_of-place.ensures.before)
    (none_lesser c.args.listed.now.items c.deref.result.now c.args.fact c.fact.result.now c.place_of-place.result c.deref.ensures.value c.fact.ensures c.place_of-place.ensures.behind)
    slots

-- before the fact there
pub returns-in_ok-insert : goal.returns-in_ok-insert
returns-in_ok-insert c =
    let count : c.len.result ≡ length c.args.listed.now.items = c.len.ensures ∙ c.args.listed.now.ok.0 in
    let seen : length c.deref.result.now ≡ length c.args.listed.now.items = ap (λ (l : List SlotFact). length l) c.deref.ensures.value in
    let le = c.place_of-place.ensures.within in
    let apart : c.place_of-place.result ≢ c.len.result = c.if-place-len.false in
    let slots : c.index.result.now.slot.0 ≢ c.args.fact.slot.0 =
    subst (λ (f : SlotFact). f.slot.0 ≢ c.args.fact.slot.0) c.fact-else-place-len.ensures
    (subst (λ (f : SlotFact). c.fact-else-place-len.result.now.slot.0 ≢ f.slot.0) c.fact.ensures (eqb-false c.fact-else-place-len.result.now.slot.0 c.fact.result.now.slot.0 (sym c.eq.ensures ∙ c.if-eq.false))) in
    c.in_ok-insert.ensures.items
    ∙ put_is_insert c.args.fact c.args.listed.now.items c.args.listed.now.items c.place_of-place.result c.index.result.now refl c.index.ensures (omega arith)
    (lesser_before c.args.listed.now.items c.deref.result.now c.args.fact c.fact.result.now c.place_of-place.result c.deref.ensures.value c.fact.ensures c.place_of-place.ensures.before)
    (none_lesser c.args.listed.now.items c.deref.result.now c.args.fact c.fact.result.now c.place_of-place.result c.deref.ensures.value c.fact.ensures c.place_of-place.ensures.behind)
    slots
