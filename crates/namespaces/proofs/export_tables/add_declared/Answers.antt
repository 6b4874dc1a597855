use Rattle.std.proofs.Common.{rules, ◌≡◌, ℕ, ◌<◌, false, List, length, Some, slice_get, refl, sym, ap, ◌∙◌, subst}
use Rattle.std.proofs.lemmas.Option.{slice_get_read}
use Rattle.element_terms.specs.declared.libraries.LibraryElement.{LibraryElement}
use Rattle.element_terms.specs.declared.declarations.Declared.{Declared}
use Rattle.element_terms.specs.NameTexts.{setter_of}
use Rattle.element_terms.specs.Declarations.{has_setter}
use Rattle.namespaces.specs.Namespaces.{Covers}
use Rattle.namespaces.proofs.LinkLemmas.{same_at}
use Rattle.namespaces.proofs.Gaining.{covers_still, name_and_setter, name_alone}
use Rattle.namespaces.proofs.export_tables.add_declared.Goals as goal

pub returns-then-not-has_setter-clause-covers : goal.returns-then-not-has_setter-clause-covers
returns-then-not-has_setter-clause-covers c =
    let libraries = c.args.libraries.now in
    let library = c.index-libraries-place.result in
    let d = c.index-declarations-at.result in
    let stands : slice_get libraries c.args.place ≡ Some library = slice_get_read libraries (length libraries) c.args.place library refl c.requires.within c.index-libraries-place.is in
    let one : c.requires.declared.library ≡ library = same_at libraries c.args.place c.requires.declared.library library c.requires.declared.stands stands in
    let listed : c.as_slice-declarations.result.now ≡ library.declared = c.as_slice-declarations.ensures in
    let within : c.args.at < length c.as_slice-declarations.result.now = subst (λ (ds : List Declared). c.args.at < length ds) (sym listed) (subst (λ (l : LibraryElement). c.args.at < length l.declared) one c.requires.declared.within) in
    let read : slice_get library.declared c.args.at ≡ Some d = subst (λ (ds : List Declared). slice_get ds c.args.at ≡ Some d) listed (slice_get_read c.as_slice-declarations.result.now (length c.as_slice-declarations.result.now) c.args.at d refl within c.index-declarations-at.is) in
    let named : c.as_str-name.result.now ≡ d.name = search rules in
    let h : Covers libraries c.args.place c.args.at d.name c.add_name.new.all.items = subst (λ (n : List ℕ). Covers libraries c.args.place c.args.at n c.add_name.new.all.items) named c.in_ok-add_name.ensures.covers in
    let none : has_setter d.kind ≡ false = search rules in
    name_alone libraries c.args.place c.args.at library d c.add_name.new.all.items stands read none h

pub returns-clause-covers : goal.returns-clause-covers
returns-clause-covers c =
    let libraries = c.args.libraries.now in
    let library = c.index-libraries-place.result in
    let d = c.index-declarations-at.result in
    let mid = c.add_name.new.all.items in
    let new = c.add_name-2.new.all.items in
    let stands : slice_get libraries c.args.place ≡ Some library = slice_get_read libraries (length libraries) c.args.place library refl c.requires.within c.index-libraries-place.is in
    let one : c.requires.declared.library ≡ library = same_at libraries c.args.place c.requires.declared.library library c.requires.declared.stands stands in
    let listed : c.as_slice-declarations.result.now ≡ library.declared = c.as_slice-declarations.ensures in
    let within : c.args.at < length c.as_slice-declarations.result.now = subst (λ (ds : List Declared). c.args.at < length ds) (sym listed) (subst (λ (l : LibraryElement). c.args.at < length l.declared) one c.requires.declared.within) in
    let read : slice_get library.declared c.args.at ≡ Some d = subst (λ (ds : List Declared). slice_get ds c.args.at ≡ Some d) listed (slice_get_read c.as_slice-declarations.result.now (length c.as_slice-declarations.result.now) c.args.at d refl within c.index-declarations-at.is) in
    let named : c.as_str-name.result.now ≡ d.name = search rules in
    let h : Covers libraries c.args.place c.args.at d.name mid = subst (λ (n : List ℕ). Covers libraries c.args.place c.args.at n mid) named c.in_ok-add_name.ensures.covers in
    let set : c.as_str-setter_name.result.now ≡ setter_of c.as_str-name.result.now = search rules in
    let k : Covers libraries c.args.place c.args.at (setter_of d.name) new = subst (λ (n : List ℕ). Covers libraries c.args.place c.args.at n new) (set ∙ ap setter_of named) c.in_ok-add_name-2.ensures.covers in
    name_and_setter libraries c.args.place c.args.at library d new stands read (covers_still libraries c.args.place c.args.at d.name mid new c.in_ok-add_name-2.ensures.gains h) k
