-- A table of the places of libraries, as one library after another is put into it.
use Rattle.std.proofs.Common.{◌≡◌, inl, inr, ℕ, ◌+◌, ◌<◌, ◌≤◌, Bool, true, false, List, [], ◌∷◌, length, get_or, Option, Some, None, is_some, position, nat_eq, refl, sym, ap, ◌∙◌, subst, arith}
use Rattle.std.specs.Prelude.{◌==◌}
use Rattle.std.specs.List.{position_or_len}
use Rattle.std.proofs.lemmas.Bool.{cases_eq, cond-true, eq-eqb, eqb-true, lt-ltb, ne_eqb}
use Rattle.std.proofs.lemmas.List.{get_or_default}
use Rattle.std.proofs.lemmas.List.Quantifiers.{position-Some}
use Rattle.std.proofs.lemmas.List.Sums.{position_or_len_is}
use Rattle.std.proofs.lemmas.Option.{same_Some, none-some}
use Rattle.dart_types.specs.declared.ids.LibId.{LibId}
use Rattle.element_terms.specs.declared.libraries.LibraryElement.{LibraryElement}
use Rattle.namespaces.specs.Exports.{place_of}

-- what is found in the table is the place, and the libraries before one are found
pub record Tabled (libraries : List LibraryElement) (i : ℕ) (table : ℕ → Option ℕ) : Type 0 where
  pub places : (q v : ℕ) → table q ≡ Some v → position (λ l. l.id.0 == q) libraries ≡ Some v
  pub all : (k : ℕ) (d : LibraryElement) → k < i → table ((get_or libraries k d).id.0) ≡ None → ⊥

module _ (libraries : List LibraryElement) (i : ℕ) (d : LibraryElement) (within : i < length libraries) (old : ℕ → Option ℕ) (h : Tabled libraries i old) where
  number : ℕ
  number = (get_or libraries i d).id.0

  -- a library of a new number is put into it
  module _ (new : ℕ → Option ℕ) (none : old ((get_or libraries i d).id.0) ≡ None) (put : new ((get_or libraries i d).id.0) ≡ Some i) (kept : (q : ℕ) → nat_eq ((get_or libraries i d).id.0) q ≡ false → new q ≡ old q) where
    first : position (λ l. l.id.0 == ((get_or libraries i d).id.0)) libraries ≡ Some i
    first =
        let p : LibraryElement → Bool = λ l. l.id.0 == ((get_or libraries i d).id.0) in
        let at : position_or_len p libraries ≡ i = position_or_len_is p libraries i d (omega (arith, within)) (λ k less. ne_eqb ((get_or libraries k d).id.0) ((get_or libraries i d).id.0) (λ same. h.all k d less (ap old same ∙ none))) (λ w. eq-eqb ((get_or libraries i d).id.0) ((get_or libraries i d).id.0) refl) in
        cond-true _ (Some (position_or_len p libraries)) None (lt-ltb (position_or_len p libraries) (length libraries) (omega (arith, at, within))) ∙ ap Some at

    at_new : (q v : ℕ) → new q ≡ Some v → position (λ l. l.id.0 == q) libraries ≡ Some v
    at_new q v is = elim (cases_eq ((get_or libraries i d).id.0) q) [
      | inl same ↦ (let value : i ≡ v = same_Some i v (sym put ∙ (ap new same ∙ is)) in
          subst (λ (n : ℕ). position (λ l. l.id.0 == n) libraries ≡ Some v) same (first ∙ ap Some value))
      | inr other ↦ h.places q v (sym (kept q (ne_eqb ((get_or libraries i d).id.0) q other)) ∙ is)
    ]

    all_new : (k : ℕ) (e : LibraryElement) → k < i + 1 → new ((get_or libraries k e).id.0) ≡ None → ⊥
    all_new k e less is = elim (cases_eq ((get_or libraries i d).id.0) ((get_or libraries k e).id.0)) [
      | inl same ↦ none-some i (sym is ∙ (ap new (sym same) ∙ put))
      | inr other ↦ elim (cases_eq k i) [
        | inl last ↦ other (sym (ap (λ (n : ℕ). (get_or libraries n e).id.0) last ∙ ap (λ (l : LibraryElement). l.id.0) (get_or_default libraries i e d within)))
        | inr before ↦ h.all k e (omega (arith, less, before)) (sym (kept ((get_or libraries k e).id.0) (ne_eqb ((get_or libraries i d).id.0) ((get_or libraries k e).id.0) other)) ∙ is)
      ]
    ]

    pub tabled_more : Tabled libraries (i + 1) new
    tabled_more = record { places = at_new; all = all_new }

  -- a library of a number that is found already
  pub tabled_same : is_some (old ((get_or libraries i d).id.0)) ≡ true → Tabled libraries (i + 1) old
  tabled_same has = record {
    places = h.places;
    all = λ k e less is. elim (cases_eq k i) [
      | inl last ↦ (let none : old ((get_or libraries i d).id.0) ≡ None = sym (ap (λ (n : ℕ). old ((get_or libraries n e).id.0)) last ∙ ap (λ (l : LibraryElement). old l.id.0) (get_or_default libraries i e d within)) ∙ is in
          let both = sym has ∙ ap is_some none in cc both)
      | inr before ↦ h.all k e (omega (arith, less, before)) is
    ];
  }

pub all_tabled : (libraries : List LibraryElement) (i : ℕ) (table : ℕ → Option ℕ) → length libraries ≤ i → Tabled libraries i table → (id : LibId) → table id.0 ≡ place_of libraries id
all_tabled libraries i table end h id = by (table id.0) refl (place_of libraries id) refl
  where
    by : (found : Option ℕ) → table id.0 ≡ found → (place : Option ℕ) → place_of libraries id ≡ place → table id.0 ≡ place_of libraries id
    by (Some v) is place at = is ∙ sym (h.places id.0 v is)
    by None is None at = is ∙ sym at
    by None is (Some k) at = absurd (never libraries refl at)
      where
        never : (ls : List LibraryElement) → libraries ≡ ls → place_of libraries id ≡ Some k → ⊥
        never [] e at' = absurd (empty (ap (λ (l : List LibraryElement). place_of l id) (sym e) ∙ at'))
          where
            empty : place_of [] id ≡ Some k → ⊥
            empty w = none-some k w
        never (l ∷ more) e at' =
            let p = position-Some (λ (l : LibraryElement). l.id.0 == id.0) libraries k l at' in
            h.all k l (omega (arith, p.0, end)) (ap table (eqb-true ((get_or libraries k l).id.0) id.0 p.1) ∙ is)
