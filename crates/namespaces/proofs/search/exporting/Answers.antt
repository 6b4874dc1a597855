use Rattle.std.proofs.Common.{rules, ◌≡◌, inl, inr, ℕ, ◌<◌, Bool, List, [], ◌∷◌, length, get_or, Contains, refl, sym, ap, ◌∙◌, subst, arith}
use Rattle.std.proofs.lemmas.Bool.{eqb-true}
use Rattle.std.proofs.lemmas.List.{get_or_read, length-map}
use Rattle.std.proofs.lemmas.List.Elements.{Contains-get_or}
use Rattle.namespaces.specs.declared.links.Link.{Link}
use Rattle.namespaces.specs.Links.{AreExporting, Finds, StartsAt, is_idle, links_to}
use Rattle.namespaces.proofs.Gaining.{exporting_below}
use Rattle.namespaces.proofs.Searching.{alone, all_found, searches, starts}
use Rattle.namespaces.proofs.search.exporting.Goals as goal
use Rattle.namespaces.proofs.search.exporting.Goals.{then-loop-at-test+else-search-gt0, else-loop-at-test}

nothing : {A : Type 0} (xs : List A) → length xs ≡ 0 → xs ≡ []
nothing [] h = refl
nothing (x ∷ xs) h = absurd (omega (arith, h))

pub returns-then-is_empty : goal.returns-then-is_empty
returns-then-is_empty c =
    let links = c.args.links.now in
    let within : c.args.to < length links = omega (arith, c.requires.within, c.requires.size, c.requires.links.size) in
    let read : c.as_slice.result.now ≡ links_to links c.args.to = c.as_slice.ensures ∙ get_or_read links c.args.to c.index-links-to.result within c.index-links-to.is [] in
    let empty : length c.as_slice.result.now ≡ 0 = eqb-true (length c.as_slice.result.now) 0 (sym c.is_empty.ensures ∙ c.if-is_empty.true) in
    let one : c.in_ok-places.places.items ≡ c.args.to ∷ [] = search rules in
    subst (λ (ps : List ℕ). AreExporting c.args.libraries.now c.args.name.now c.args.to ps) (sym one) (alone c.args.libraries.now c.args.count c.requires.size c.args.name.now c.args.to links c.requires.links (sym read ∙ nothing c.as_slice.result.now empty))

pub start-requires : goal.start-requires
start-requires c = omega (arith, c.requires.within, c.requires.size, ap (λ (ms : List Bool). length ms) c.requires.idle, length-map c.args.libraries.now is_idle)

pub loop-at-init : goal.loop-at-init
loop-at-init c = starts c.args.libraries.now c.args.name.now c.args.to c.in_ok-search.search (subst (λ (ms : List Bool). StartsAt ms c.args.to c.in_ok-search.search) c.requires.idle c.in_ok-search.ensures)

pub bounds-links-place : goal.bounds-links-place
bounds-links-place c =
    let s = c.loop-at.search in
    let here : c.loop-at.at < length s.places.items = omega arith in
    let place : c.index.result.now ≡ get_or s.places.items c.loop-at.at 0 = get_or_read s.places.items c.loop-at.at c.index.result.now here c.index.ensures 0 in
    let below : get_or s.places.items c.loop-at.at 0 < length c.args.libraries.now = exporting_below c.args.libraries.now c.args.name.now (get_or s.places.items c.loop-at.at 0) c.args.to (omega (arith, c.requires.within, c.requires.size)) (c.loop-at.invariant.only (get_or s.places.items c.loop-at.at 0) (Contains-get_or s.places.items c.loop-at.at 0 here)) in
    omega (arith, place, below, c.requires.links.size)

pub find_from-requires-clause-links : goal.find_from-requires-clause-links
find_from-requires-clause-links c =
    let links = c.args.links.now in
    let s = c.loop-at.search in
    let here : c.loop-at.at < length s.places.items = omega arith in
    let place : c.index.result.now ≡ get_or s.places.items c.loop-at.at 0 = get_or_read s.places.items c.loop-at.at c.index.result.now here c.index.ensures 0 in
    let below : get_or s.places.items c.loop-at.at 0 < length c.args.libraries.now = exporting_below c.args.libraries.now c.args.name.now (get_or s.places.items c.loop-at.at 0) c.args.to (omega (arith, c.requires.within, c.requires.size)) (c.loop-at.invariant.only (get_or s.places.items c.loop-at.at 0) (Contains-get_or s.places.items c.loop-at.at 0 here)) in
    let within : c.index.result.now < length links = omega (arith, place, below, c.requires.links.size) in
    let read : c.as_slice-in-loop-at.result.now ≡ links_to links c.index.result.now = c.as_slice-in-loop-at.ensures ∙ get_or_read links c.index.result.now c.index-links-place.result within c.index-links-place.is [] in
    λ k d h. (c.requires.links.only c.index.result.now (get_or c.as_slice-in-loop-at.result.now k d) (subst (λ (ls : List Link). Contains ls (get_or c.as_slice-in-loop-at.result.now k d)) read (Contains-get_or c.as_slice-in-loop-at.result.now k d h))).0

pub loop-at-preserved : goal.loop-at-preserved
loop-at-preserved c =
    let links = c.args.links.now in
    let s = c.loop-at.search in
    let here : c.loop-at.at < length s.places.items = omega arith in
    let place : c.index.result.now ≡ get_or s.places.items c.loop-at.at 0 = get_or_read s.places.items c.loop-at.at c.index.result.now here c.index.ensures 0 in
    let below : get_or s.places.items c.loop-at.at 0 < length c.args.libraries.now = exporting_below c.args.libraries.now c.args.name.now (get_or s.places.items c.loop-at.at 0) c.args.to (omega (arith, c.requires.within, c.requires.size)) (c.loop-at.invariant.only (get_or s.places.items c.loop-at.at 0) (Contains-get_or s.places.items c.loop-at.at 0 here)) in
    let within : c.index.result.now < length links = omega (arith, place, below, c.requires.links.size) in
    let read : c.as_slice-in-loop-at.result.now ≡ links_to links c.index.result.now = c.as_slice-in-loop-at.ensures ∙ get_or_read links c.index.result.now c.index-links-place.result within c.index-links-place.is [] in
    let f : Finds c.args.libraries.now c.args.name.now (links_to links (get_or s.places.items c.loop-at.at 0)) s c.find_from.new.search = subst (λ (ls : List Link). Finds c.args.libraries.now c.args.name.now ls s c.find_from.new.search) (read ∙ ap (λ (p : ℕ). links_to links p) place) c.in_ok-find_from.ensures in
    searches c.args.libraries.now c.args.count c.requires.size c.args.name.now c.args.to links c.requires.links c.loop-at.at s c.find_from.new.search c.loop-at.invariant here f

pub returns : goal.returns
returns c = elim c.loop-at-test.branch [
  | then-loop-at-test+else-search-gt0 w ↦ all_found c.args.libraries.now c.args.name.now c.args.to c.loop-at.at c.loop-at.search c.loop-at.invariant (inr (omega (arith, w.if-search-gt0.false)))
  | else-loop-at-test w ↦ all_found c.args.libraries.now c.args.name.now c.args.to c.loop-at.at c.loop-at.search c.loop-at.invariant (inl (omega (arith, w.loop-at-test.false)))
]
