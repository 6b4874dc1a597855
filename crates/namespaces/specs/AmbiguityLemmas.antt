-- The pairs of libraries tell which exports are ambiguous.
use Rattle.std.proofs.Common.{◌≡◌, ◌↔◌, inl, inr, ℕ, zero, suc, ◌<◌, Bool, true, false, ◌&&◌, not, bytes_eq, List, [], ◌∷◌, length, Contains, Option, Some, None, refl, sym, ap, ◌∙◌, subst, arith}
use Rattle.std.specs.List.{list_any}
use Rattle.std.specs.Option.{is_none}
use Rattle.std.proofs.lemmas.Bool.{and_from, and_parts, and_right, eq-eqb, eqb-true, false_from_ne_true, not-true, not_from_false, or_cases, or_from, or_left, or_right}
use Rattle.std.proofs.lemmas.Bool.Decides.{same_from_decides}
use Rattle.std.proofs.lemmas.List.Quantifiers.{position-Some}
use Rattle.std.proofs.lemmas.Slice.Eq.{bytes_eq-Decides}
use Rattle.std.specs.Prelude.{◌==◌}
use Rattle.dart_types.specs.declared.ids.LibId.{LibId}
use Rattle.element_terms.specs.declared.libraries.LibraryElement.{LibraryElement}
use Rattle.element_terms.specs.declared.libraries.ExportEdge.{ExportEdge}
use Rattle.namespaces.specs.declared.elements.ElementId.{ElementId}
use Rattle.namespaces.specs.declared.elements.Exported.{Exported}
use Rattle.namespaces.specs.Ambiguities.{clash, clashes_with, is_ambiguous, is_ambiguous_pair, is_brought, pairs_if, pairs_of}
use Rattle.namespaces.specs.AmbiguousExports.{BringsElement, IsAmbiguousExport}
use Rattle.namespaces.specs.Exports.{IsExport, place_in, place_of}
use Rattle.namespaces.specs.Meanings.{same_element}
use Rattle.namespaces.specs.Namespaces.{AreNamespaces}

no_element : {A : Type 0} {x : A} → Contains [] x → ⊥
no_element h = omega (arith, h.1)

-- a test of elements, and the element that passes it
any_has : {A : Type 0} (p : A → Bool) (xs : List A) (x : A) → Contains xs x → p x ≡ true → list_any p xs ≡ true
any_has p [] x w h = absurd (no_element w)
any_has p (y ∷ ys) x (zero, below, is) h = or_left (p y) (list_any p ys) (ap p is ∙ h)
any_has p (y ∷ ys) x (suc k, below, is) h = or_right (p y) (list_any p ys) (any_has p ys x (k, omega arith, is) h)

any_from : {A : Type 0} (p : A → Bool) (xs : List A) → list_any p xs ≡ true → (x : A) × Contains xs x × (p x ≡ true)
any_from p [] h = (cc h)
any_from p (y ∷ ys) h = elim (or_cases (p y) (list_any p ys) h) [
  | inl is ↦ (y, (zero, omega arith, refl), is)
  | inr later ↦ (let w = any_from p ys later in (w.0, (suc w.1.0, omega (arith, w.1.1), w.1.2), w.2))
]

none_is : {A : Type 0} (o : Option A) → is_none o ≡ true → o ≡ None
none_is None h = refl
none_is (Some x) h = (cc h)

-- the test of two elements
same_is : (e f : ElementId) → same_element e f ≡ true → e ≡ f
same_is e f h =
    let both = and_parts (e.library.0 == f.library.0) (e.place == f.place) h in
    ap (λ (k : ℕ). record { library = record { 0 = k }; place = e.place }) (eqb-true e.library.0 f.library.0 both.0) ∙ ap (λ (k : ℕ). record { library = f.library; place = k }) (eqb-true e.place f.place both.1)

is_same : (e f : ElementId) → e ≡ f → same_element e f ≡ true
is_same e f h = and_from (e.library.0 == f.library.0) (e.place == f.place) (eq-eqb e.library.0 f.library.0 (ap (λ (k : ElementId). k.library.0) h)) (eq-eqb e.place f.place (ap (λ (k : ElementId). k.place) h))

-- what an export brings
module _ (libraries : List LibraryElement) (all : List (List Exported)) (h : AreNamespaces libraries all) (library : LibraryElement) where
  below : (id : LibId) (place : ℕ) → place_of libraries id ≡ Some place → place < length libraries
  below id place is = (position-Some (λ (l : LibraryElement). l.id.0 == id.0) libraries place library is).0

  exported : (id : LibId) (pair : Exported) (found : Option ℕ) → place_of libraries id ≡ found → Contains (pairs_if all found) pair → (place : ℕ) × (place_of libraries id ≡ Some place) × IsExport libraries place pair
  exported id pair None is w = absurd (no_element w)
  exported id pair (Some place) is w = (place, is, (h.each place (below id place is)).only pair w)

  brought_by : (export : ExportEdge) (pair : Exported) → Contains (pairs_of libraries all export.library) pair → is_brought library export.combinators pair ≡ true → BringsElement libraries library export pair.name pair.element
  brought_by export pair w b =
      let e = exported export.library pair (place_of libraries export.library) refl w in
      let both = and_parts _ (is_none (place_in library pair.name)) b in
      record { place = e.0; target = e.1; exports = e.2; undeclared = none_is (place_in library pair.name) both.1; passes = both.0 }

  module _ (export : ExportEdge) (name : List ℕ) (element : ElementId) (b : BringsElement libraries library export name element) where
    pair : Exported
    pair = record { name = name; element = element }

    stands : Contains (pairs_of libraries all export.library) (record { name = name; element = element })
    stands = subst (λ (o : Option ℕ). Contains (pairs_if all o) (record { name = name; element = element })) (sym b.target) ((h.each b.place (below export.library b.place b.target)).all (record { name = name; element = element }) b.exports)

    passes : is_brought library export.combinators (record { name = name; element = element }) ≡ true
    passes = and_from _ (is_none (place_in library name)) b.passes (ap is_none b.undeclared)

  -- the pairs tell what is ambiguous
  module _ (earlier : List ExportEdge) (export : ExportEdge) where
    two_elements : is_ambiguous libraries all library earlier export ≡ true → IsAmbiguousExport libraries library earlier export
    two_elements t =
        let p = any_from (is_ambiguous_pair libraries all library earlier export.combinators) (pairs_of libraries all export.library) t in
        let both = and_parts (is_brought library export.combinators p.0) (list_any (clashes_with libraries all library p.0) earlier) p.2 in
        let e = any_from (clashes_with libraries all library p.0) earlier both.1 in
        let q = any_from (λ (q : Exported). is_brought library e.0.combinators q && clash p.0 q) (pairs_of libraries all e.0.library) e.2 in
        let parts = and_parts (is_brought library e.0.combinators q.0) (clash p.0 q.0) q.2 in
        let clashes = and_parts (bytes_eq p.0.name q.0.name) (not (same_element p.0.element q.0.element)) parts.1 in
        let named : p.0.name ≡ q.0.name = (bytes_eq-Decides p.0.name q.0.name).0 clashes.0 in
        record {
          name = p.0.name;
          element = p.0.element;
          brought = brought_by export p.0 p.1 both.0;
          before = e.0;
          written = e.1;
          other = q.0.element;
          also = subst (λ (n : List ℕ). BringsElement libraries library e.0 n q.0.element) (sym named) (brought_by e.0 q.0 q.1 parts.0);
          two = λ same. (let differ = sym (not-true (same_element p.0.element q.0.element) clashes.1) ∙ is_same p.0.element q.0.element same in cc differ);
        }

    is_told : IsAmbiguousExport libraries library earlier export → is_ambiguous libraries all library earlier export ≡ true
    is_told a =
        let p : Exported = record { name = a.name; element = a.element } in
        let q : Exported = record { name = a.name; element = a.other } in
        let differ : same_element a.element a.other ≡ false = false_from_ne_true (same_element a.element a.other) (λ e. a.two (same_is a.element a.other e)) in
        let clashes : clash p q ≡ true = and_from (bytes_eq a.name a.name) (not (same_element a.element a.other)) ((bytes_eq-Decides a.name a.name).1 refl) (not_from_false (same_element a.element a.other) differ) in
        let second : clashes_with libraries all library p a.before ≡ true = any_has (λ (r : Exported). is_brought library a.before.combinators r && clash p r) (pairs_of libraries all a.before.library) q (stands a.before a.name a.other a.also) (and_from (is_brought library a.before.combinators q) (clash p q) (passes a.before a.name a.other a.also) clashes) in
        let some : list_any (clashes_with libraries all library p) earlier ≡ true = any_has (clashes_with libraries all library p) earlier a.before a.written second in
        any_has (is_ambiguous_pair libraries all library earlier export.combinators) (pairs_of libraries all export.library) p (stands export a.name a.element a.brought) (and_from (is_brought library export.combinators p) (list_any (clashes_with libraries all library p) earlier) (passes export a.name a.element a.brought) some)

    pub ambiguous_is_told : (is_ambiguous libraries all library earlier export ≡ true) ↔ IsAmbiguousExport libraries library earlier export
    ambiguous_is_told = (two_elements, is_told)

-- the same pairs in any order tell the same
pub ambiguous_in_any_order : (libraries : List LibraryElement) (all others : List (List Exported)) (library : LibraryElement) (earlier : List ExportEdge) (export : ExportEdge) → AreNamespaces libraries all → AreNamespaces libraries others → is_ambiguous libraries all library earlier export ≡ is_ambiguous libraries others library earlier export
ambiguous_in_any_order libraries all others library earlier export h k = same_from_decides (is_ambiguous libraries all library earlier export) (is_ambiguous libraries others library earlier export) (ambiguous_is_told libraries all h library earlier export) (ambiguous_is_told libraries others k library earlier export)

-- nothing stands before the first export
pub first_is_not : (libraries : List LibraryElement) (all : List (List Exported)) (library : LibraryElement) (export : ExportEdge) → is_ambiguous libraries all library [] export ≡ false
first_is_not libraries all library export = none (pairs_of libraries all export.library)
  where
    none : (pairs : List Exported) → list_any (is_ambiguous_pair libraries all library [] export.combinators) pairs ≡ false
    none [] = refl
    none (p ∷ more) = or_from (is_ambiguous_pair libraries all library [] export.combinators p) (list_any (is_ambiguous_pair libraries all library [] export.combinators) more) (and_right (is_brought library export.combinators p) false refl) (none more)
