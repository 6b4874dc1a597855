use Rattle.std.proofs.Common.{rules, ◌≡◌, ℕ, ◌<◌, false, List, length, get_or, Some, slice_get, refl, sym, ap, ◌∙◌, subst, arith}
use Rattle.std.proofs.lemmas.Option.{slice_get_read}
use Rattle.std.proofs.lemmas.List.Elements.{Contains-get_or}
use Rattle.element_terms.specs.NameTexts.{is_private}
use Rattle.namespaces.specs.Exports.{place_in}
use Rattle.namespaces.specs.Links.{AreExporting}
use Rattle.namespaces.proofs.Gaining.{exporting_below, pair_gains, pair_covers}
use Rattle.namespaces.proofs.export_tables.add_name.Goals as goal

pub add_pairs-requires : goal.add_pairs-requires
add_pairs-requires c =
    let libraries = c.args.libraries.now in
    let seen : c.as_slice.result.now ≡ c.in_ok-places.places.items = search rules in
    let e : AreExporting libraries c.args.name.now c.args.place c.as_slice.result.now = subst (λ (ps : List ℕ). AreExporting libraries c.args.name.now c.args.place ps) (sym seen) c.in_ok-places.ensures in
    λ k d h.
    let below : get_or c.as_slice.result.now k d < length libraries = exporting_below libraries c.args.name.now (get_or c.as_slice.result.now k d) c.args.place c.requires.within (e.only (get_or c.as_slice.result.now k d) (Contains-get_or c.as_slice.result.now k d h)) in
    omega (arith, below, c.requires.size)

pub returns-clause-gains : goal.returns-clause-gains
returns-clause-gains c =
    let libraries = c.args.libraries.now in
    let library = c.index-libraries-place.result in
    let stands : slice_get libraries c.args.place ≡ Some library = slice_get_read libraries (length libraries) c.args.place library refl c.requires.within c.index-libraries-place.is in
    let seen : c.as_slice.result.now ≡ c.in_ok-places.places.items = search rules in
    let e : AreExporting libraries c.args.name.now c.args.place c.as_slice.result.now = subst (λ (ps : List ℕ). AreExporting libraries c.args.name.now c.args.place ps) (sym seen) c.in_ok-places.ensures in
    let shown : is_private c.args.name.now ≡ false = search rules in
    let same : c.in-Some.found ≡ c.args.at = omega arith in
    let declared : place_in library c.args.name.now ≡ Some c.args.at = sym c.declared_place.ensures ∙ (c.in-Some.is ∙ ap Some same) in
    pair_gains libraries c.args.place c.args.at c.args.name.now library c.args.all.now.items c.add_pairs.new.all.items c.as_slice.result.now stands shown declared e c.in_ok-add_pairs.ensures

pub returns-clause-covers : goal.returns-clause-covers
returns-clause-covers c =
    let libraries = c.args.libraries.now in
    let library = c.index-libraries-place.result in
    let stands : slice_get libraries c.args.place ≡ Some library = slice_get_read libraries (length libraries) c.args.place library refl c.requires.within c.index-libraries-place.is in
    let seen : c.as_slice.result.now ≡ c.in_ok-places.places.items = search rules in
    let e : AreExporting libraries c.args.name.now c.args.place c.as_slice.result.now = subst (λ (ps : List ℕ). AreExporting libraries c.args.name.now c.args.place ps) (sym seen) c.in_ok-places.ensures in
    pair_covers libraries c.args.place c.args.at c.args.name.now library c.args.all.now.items c.add_pairs.new.all.items c.as_slice.result.now stands e c.in_ok-add_pairs.ensures
