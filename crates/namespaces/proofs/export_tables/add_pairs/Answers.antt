use Rattle.std.proofs.Common.{rules, ◌≡◌, ℕ, ◌<◌, List, [], ◌∷◌, ◌++◌, length, take, get_or, sym, ap, ◌∙◌, subst, arith, slice_set}
use Rattle.std.proofs.lemmas.List.{take_more, get_or_read}
use Rattle.std.proofs.lemmas.List.Elements.{All-get_or}
use Rattle.namespaces.specs.declared.elements.Exported.{Exported}
use Rattle.namespaces.specs.Namespaces.{AddsPair, pairs_at}
use Rattle.namespaces.proofs.Gaining.{one_place}
use Rattle.namespaces.proofs.export_tables.add_pairs.Goals as goal

pub loop-place-preserved : goal.loop-place-preserved
loop-place-preserved c =
    let places = c.args.places.now in
    let i = c.loop-place.place-index in
    let here : i < length places = omega arith in
    let place : ℕ = get_or places i 0 in
    let old = c.args.all.now.items in
    let mid = c.loop-place.all.items in
    let pair : Exported = record { name = c.args.name.now; element = c.args.element } in
    let was_within : place < length old = All-get_or (λ (l : ℕ). l < length old) places i 0 here c.requires in
    let within : place < length mid = omega (arith, was_within, c.loop-place.invariant.size) in
    let read : c.index_mut.result.now ≡ pairs_at mid place = get_or_read mid place c.index_mut.result.now within c.index_mut.ensures.value [] in
    let pushed : c.push.new.self ≡ c.index_mut.result.now ++ (record { name = c.in_ok-name.name; element = c.args.element }) ∷ [] = search rules in
    let named : c.in_ok-name.name ≡ c.args.name.now = search rules in
    let row : c.push.new.self ≡ pairs_at mid place ++ pair ∷ [] = pushed ∙ (ap (λ (n : List ℕ). c.index_mut.result.now ++ (record { name = n; element = c.args.element }) ∷ []) named ∙ ap (λ (ps : List Exported). ps ++ pair ∷ []) read) in
    subst (λ (ls : List ℕ). AddsPair ls pair old (slice_set mid place c.push.new.self)) (sym (take_more places i 0 here)) (subst (λ (ps : List Exported). AddsPair (take i places ++ place ∷ []) pair old (slice_set mid place ps)) (sym row) (one_place (take i places) place pair old mid c.loop-place.invariant within))
