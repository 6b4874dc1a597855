-- The exports among libraries, as links between their places.
use Rattle.std.proofs.Common.{◌≡◌, ◌⊎◌, inl, inr, ℕ, zero, suc, ◌+◌, ◌<◌, Bool, true, List, [], ◌∷◌, ◌++◌, length, set, replicate, Contains, Option, Some, None, slice_get, eqb, refl, sym, ap, ◌∙◌, subst, arith}
use Rattle.std.proofs.lemmas.Bool.{cases_eq}
use Rattle.std.proofs.lemmas.List.{get_or-set_same, get_or-set_other, length-set, length-replicate}
use Rattle.std.proofs.lemmas.Option.{same_Some, none-some, slice_get_within}
use Rattle.std.proofs.lemmas.List.Quantifiers.{position-Some}
use Rattle.std.proofs.lemmas.List.Elements.{Contains-append_left, Contains-push, Contains-push_cases}
use Rattle.element_terms.specs.declared.libraries.LibraryElement.{LibraryElement}
use Rattle.element_terms.specs.declared.libraries.ExportEdge.{ExportEdge}
use Rattle.element_terms.specs.Combinators.{brings}
use Rattle.dart_types.specs.declared.ids.LibId.{LibId}
use Rattle.namespaces.specs.declared.links.Link.{Link}
use Rattle.namespaces.specs.Exports.{place_in, place_of}
use Rattle.namespaces.specs.Links.{AnswersPass, AreLinks, IsLink, PutsLink, links_to}

pub no_element : {A : Type 0} {x : A} → Contains [] x → ⊥
no_element h = omega (arith, h.1)

-- what a library that is found at a place has to be
pub same_at : {A : Type 0} (xs : List A) (i : ℕ) (x y : A) → slice_get xs i ≡ Some x → slice_get xs i ≡ Some y → x ≡ y
same_at xs i x y p q = same_Some x y (sym p ∙ q)

pub place_below : (libraries : List LibraryElement) (id : LibId) (place : ℕ) (d : LibraryElement) → place_of libraries id ≡ Some place → place < length libraries
place_below libraries id place d h = (position-Some (λ (l : LibraryElement). eqb l.id.0 id.0) libraries place d h).0

none_to : (n to : ℕ) → links_to (replicate n []) to ≡ []
none_to zero to = refl
none_to (suc n) zero = refl
none_to (suc n) (suc to) = none_to n to

-- no links yet
pub no_links : (libraries : List LibraryElement) (links : List (List Link)) → links ≡ replicate (length libraries) [] → AreLinks libraries 0 0 links
no_links libraries links none = subst (λ (ls : List (List Link)). AreLinks libraries 0 0 ls) (sym none) (record {
  size = length-replicate (length libraries) [];
  only = λ to link w. absurd (no_element (subst (λ (ls : List Link). Contains ls link) (none_to (length libraries) to) w));
  all = λ link is before. elim before [ inl less ↦ absurd (omega (arith, less)) | inr same ↦ absurd (omega (arith, same.1)) ];
})

-- the links of one more export
module _ (libraries : List LibraryElement) (from export : ℕ) (exporter : LibraryElement) (edge : ExportEdge) (stands : slice_get libraries from ≡ Some exporter) (written : slice_get exporter.exports export ≡ Some edge) where
  -- a link of this export
  this_target : (link : Link) → IsLink libraries link → link.from ≡ from → link.export ≡ export → place_of libraries edge.library ≡ Some link.to
  this_target link is same same' =
      let library : is.exporter ≡ exporter = same_at libraries from is.exporter exporter (subst (λ (k : ℕ). slice_get libraries k ≡ Some is.exporter) same is.stands) stands in
      let one : is.edge ≡ edge = same_at exporter.exports export is.edge edge (subst (λ (k : ℕ). slice_get exporter.exports k ≡ Some is.edge) same' (subst (λ (l : LibraryElement). slice_get l.exports link.export ≡ Some is.edge) library is.written)) written in
      subst (λ (e : ExportEdge). place_of libraries e.library ≡ Some link.to) one is.target

  earlier : (link : Link) → (link.from < from) ⊎ ((link.from ≡ from) × (link.export < export + 1)) → ((link.from < from) ⊎ ((link.from ≡ from) × (link.export < export))) ⊎ ((link.from ≡ from) × (link.export ≡ export))
  earlier link before = elim before [
    | inl less ↦ inl (inl less)
    | inr same ↦ elim (cases_eq link.export export) [
      | inl this ↦ inr (same.0, this)
      | inr other ↦ inl (inr (same.0, omega (arith, same.1, other)))
    ]
  ]

  same_link : (to : ℕ) (link : Link) → link.from ≡ from → link.export ≡ export → link.to ≡ to → record { from = from; export = export; to = to } ≡ link
  same_link to link a b c = sym (ap (λ (k : ℕ). record { from = k; export = link.export; to = link.to }) a ∙ (ap (λ (k : ℕ). record { from = from; export = k; to = link.to }) b ∙ ap (λ (k : ℕ). record { from = from; export = export; to = k }) c))

  module _ (to : ℕ) (old : List (List Link)) (is : place_of libraries edge.library ≡ Some to) (h : AreLinks libraries from export old) where
    one : Link
    one = record { from = from; export = export; to = to }

    row : List Link
    row = links_to old to ++ (record { from = from; export = export; to = to }) ∷ []

    within : to < length old
    within = omega (arith, h.size, place_below libraries edge.library to exporter is)

    at_to : links_to (set old to row) to ≡ row
    at_to = get_or-set_same old to row [] within

    at_other : (l : ℕ) → (l ≡ to → ⊥) → links_to (set old to row) l ≡ links_to old l
    at_other l other = get_or-set_other old to l row [] other

    still : (l : ℕ) (link : Link) → Contains (links_to old l) link → Contains (links_to (set old to row) l) link
    unfolding row
    still l link w = elim (cases_eq l to) [
      | inl same ↦ subst (λ (k : ℕ). Contains (links_to (set old to row) k) link) (sym same) (subst (λ (ls : List Link). Contains ls link) (sym at_to) (Contains-append_left (links_to old to) (record { from = from; export = export; to = to } ∷ []) link (subst (λ (k : ℕ). Contains (links_to old k) link) same w)))
      | inr other ↦ subst (λ (ls : List Link). Contains ls link) (sym (at_other l other)) w
    ]

    only_is : (l : ℕ) (link : Link) → Contains (links_to (set old to row) l) link → IsLink libraries link × (link.to ≡ l)
    unfolding row
    only_is l link w = elim (cases_eq l to) [
      | inl same ↦ elim (Contains-push_cases (links_to old to) (record { from = from; export = export; to = to }) link (subst (λ (ls : List Link). Contains ls link) at_to (subst (λ (k : ℕ). Contains (links_to (set old to row) k) link) same w))) [
        | inl before ↦ (let o = h.only to link before in (o.0, o.1 ∙ sym same))
        | inr this ↦ (subst (λ (k : Link). IsLink libraries k) this (record { exporter = exporter; edge = edge; stands = stands; written = written; target = is }), sym (ap (λ (k : Link). k.to) this) ∙ sym same)
      ]
      | inr other ↦ h.only l link (subst (λ (ls : List Link). Contains ls link) (at_other l other) w)
    ]

    has_one : Contains (links_to (set old to row) to) (record { from = from; export = export; to = to })
    unfolding row
    has_one = subst (λ (ls : List Link). Contains ls (record { from = from; export = export; to = to })) (sym at_to) (Contains-push (links_to old to) (record { from = from; export = export; to = to }))

    put : AreLinks libraries from (export + 1) (set old to (links_to old to ++ (record { from = from; export = export; to = to }) ∷ []))
    unfolding row
    put = record {
      size = length-set old to row ∙ h.size;
      only = only_is;
      all = λ link link_is before. elim (earlier link before) [
        | inl less ↦ still link.to link (h.all link link_is less)
        | inr this ↦ (let target = same_Some link.to to (sym (this_target link link_is this.0 this.1) ∙ is) in
            let same : record { from = from; export = export; to = to } ≡ link = same_link to link this.0 this.1 target in
            subst (λ (l : Link). Contains (links_to (set old to row) l.to) l) same has_one)
      ];
    }

  pub one_export : (target : Option ℕ) (old new : List (List Link)) → place_of libraries edge.library ≡ target → AreLinks libraries from export old → PutsLink from export target old new → AreLinks libraries from (export + 1) new
  one_export None old new is h puts = subst (λ (ls : List (List Link)). AreLinks libraries from (export + 1) ls) (sym puts) (record {
    size = h.size;
    only = h.only;
    all = λ link link_is before. elim (earlier link before) [
      | inl less ↦ h.all link link_is less
      | inr this ↦ (let both = sym is ∙ this_target link link_is this.0 this.1 in absurd (none-some link.to both))
    ];
  })
  one_export (Some to) old new is h puts = subst (λ (ls : List (List Link)). AreLinks libraries from (export + 1) ls) (sym puts) (put to old is h)

-- the links of the whole library
module _ (libraries : List LibraryElement) (from export : ℕ) (exporter : LibraryElement) (stands : slice_get libraries from ≡ Some exporter) where
  pub all_exports : (links : List (List Link)) → export ≡ length exporter.exports → AreLinks libraries from export links → AreLinks libraries (from + 1) 0 links
  all_exports links end h = record {
    size = h.size;
    only = h.only;
    all = λ link is before. elim before [
      | inl less ↦ elim (cases_eq link.from from) [
        | inl same ↦ (let library : is.exporter ≡ exporter = same_at libraries from is.exporter exporter (subst (λ (k : ℕ). slice_get libraries k ≡ Some is.exporter) same is.stands) stands in
            let within : link.export < length exporter.exports = slice_get_within exporter.exports link.export is.edge (subst (λ (l : LibraryElement). slice_get l.exports link.export ≡ Some is.edge) library is.written) in
            h.all link is (inr (same, omega (arith, within, end))))
        | inr other ↦ h.all link is (inl (omega (arith, less, other)))
      ]
      | inr same ↦ absurd (omega (arith, same.1))
    ];
  }

-- whether a name goes along a link
pub answers_pass : (libraries : List LibraryElement) (name : List ℕ) (link : Link) (is : IsLink libraries link) (answer : Bool) → (answer ≡ true → (place_in is.exporter name ≡ None) × (brings is.edge.combinators name ≡ true)) → ((place_in is.exporter name ≡ None) → (brings is.edge.combinators name ≡ true) → answer ≡ true) → AnswersPass answer libraries name link
answers_pass libraries name link is answer to back = record {
  if_true = λ t. (let both = to t in record { exporter = is.exporter; edge = is.edge; stands = is.stands; written = is.written; undeclared = both.0; passes = both.1 });
  if_passes = λ p.
      (let library : p.exporter ≡ is.exporter = same_at libraries link.from p.exporter is.exporter p.stands is.stands in
      let one : p.edge ≡ is.edge = same_at is.exporter.exports link.export p.edge is.edge (subst (λ (l : LibraryElement). slice_get l.exports link.export ≡ Some p.edge) library p.written) is.written in
      back (subst (λ (l : LibraryElement). place_in l name ≡ None) library p.undeclared) (subst (λ (e : ExportEdge). brings e.combinators name ≡ true) one p.passes));
}
