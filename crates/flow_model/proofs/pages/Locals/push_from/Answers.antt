use Rattle.std.proofs.Common.{◌≡◌, ◌++◌, ◌∷◌, [], suc, List, get_or, drop, drop-cons, sym, ap, ◌∙◌, arith, add-one}
use Rattle.std.proofs.lemmas.List.{append_assoc}
use Rattle.flow_model.specs.declared.locals.Facts.{Facts}
use Rattle.flow_model.proofs.pages.Locals.push_from.Goals as goal

-- one more
pub loop-place-preserved : goal.loop-place-preserved
loop-place-preserved c =
    let others = c.args.others.now in
    let place = c.loop-place.place in
    let local : c.in_ok-share.field-0 ≡ get_or others place c.at.result.now = c.in_ok-share.ensures ∙ c.at.ensures in
    let pushed : c.push.new.self ≡ c.loop-place.self ++ c.in_ok-share.field-0 ∷ [] = c.in_ok-push.ensures.ok in
    let behind : drop place others ≡ get_or others place c.at.result.now ∷ drop (suc place) others = drop-cons others place c.at.result.now (omega arith) in
    rw add-one
    (ap (λ (l : List Facts). l ++ drop (suc place) others) pushed
    ∙ append_assoc c.loop-place.self (c.in_ok-share.field-0 ∷ []) (drop (suc place) others)
    ∙ ap (λ (f : Facts). c.loop-place.self ++ f ∷ drop (suc place) others) local
    ∙ ap (λ (l : List Facts). c.loop-place.self ++ l) (sym behind)
    ∙ c.loop-place.invariant)
