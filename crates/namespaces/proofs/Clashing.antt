-- What names mean among the pairs that exports bring, as one pair after another is added.
use Rattle.std.proofs.Common.{◌≡◌, ◌⊎◌, inl, inr, ℕ, ◌+◌, ◌<◌, ◌≤◌, Bool, true, false, ◌&&◌, ◌||◌, not, bytes_eq, List, [], ◌∷◌, ◌++◌, length, take, get_or, Option, Some, None, slice_get, refl, sym, ap, ◌∙◌, arith}
use Rattle.std.specs.Borrow.{Bor}
use Rattle.std.specs.BTreeMap.{get_by}
use Rattle.std.specs.Cmp.Lexicographic.{slice_cmp}
use Rattle.std.specs.Option.{option_map_or}
use Rattle.std.specs.Ordering.{nat_cmp}
use Rattle.std.specs.Prelude.{◌==◌, if◌then◌else◌, unwrap_or}
use Rattle.std.specs.List.{list_any}
use Rattle.std.proofs.lemmas.Bool.{and_from, and_parts, cases_eq, eq-eqb, eqb-true}
use Rattle.std.proofs.lemmas.List.{get_or_append_left, get_or_default, get_or_past, get_or_push, length_push}
use Rattle.std.proofs.lemmas.List.Folds.{list_any-append}
use Rattle.std.proofs.lemmas.Option.{slice_get_cases}
use Rattle.std.proofs.lemmas.Slice.Eq.{bytes_eq-Decides}
use Rattle.element_terms.specs.declared.libraries.LibraryElement.{LibraryElement}
use Rattle.element_terms.specs.declared.libraries.ExportEdge.{ExportEdge}
use Rattle.namespaces.specs.declared.elements.ElementId.{ElementId}
use Rattle.namespaces.specs.declared.elements.Exported.{Exported}
use Rattle.namespaces.specs.declared.found.Found.{Found}
use Rattle.namespaces.specs.declared.found.Found.TheVariants.{One, Ambiguous, Nothing}
use Rattle.namespaces.specs.Ambiguities.{clash, clashes_with, is_ambiguous, is_brought, pairs_of}
use Rattle.namespaces.specs.BroughtNames.{AddsClashes, Names, TellsAmbiguous, clashes, differs, found_of}
use Rattle.namespaces.specs.Meanings.{or_also, same_element}

or_none : (a : Bool) → (a || false) ≡ a
or_none true = refl
or_none false = refl

or_assoc : (a b c : Bool) → ((a || b) || c) ≡ (a || (b || c))
or_assoc true b c = refl
or_assoc false b c = refl

-- the test of two elements
same_is : (e f : ElementId) → same_element e f ≡ true → e ≡ f
same_is e f h =
    let both = and_parts (e.library.0 == f.library.0) (e.place == f.place) h in
    ap (λ (k : ℕ). record { library = record { 0 = k }; place = e.place }) (eqb-true e.library.0 f.library.0 both.0) ∙ ap (λ (k : ℕ). record { library = f.library; place = k }) (eqb-true e.place f.place both.1)

is_same : (e : ElementId) → same_element e e ≡ true
is_same e = and_from (e.library.0 == e.library.0) (e.place == e.place) (eq-eqb e.library.0 e.library.0 refl) (eq-eqb e.place e.place refl)

same_again : (e f : ElementId) → same_element e f ≡ same_element f e
same_again e f = at (same_element e f) refl (same_element f e) refl
  where
    at : (a : Bool) → same_element e f ≡ a → (b : Bool) → same_element f e ≡ b → same_element e f ≡ same_element f e
    at true is true is_too = is ∙ sym is_too
    at false is false is_too = is ∙ sym is_too
    at true is false is_too = is ∙ (sym (is_same e) ∙ (ap (λ (k : ElementId). same_element k e) (same_is e f is)))
    at false is true is_too = ap (same_element e) (same_is f e is_too) ∙ (is_same e ∙ sym is_too)

-- one element more is found
more_differs : (f : Found) (x e : ElementId) → differs (or_also f x) e ≡ (differs f e || not (same_element e x))
more_differs Nothing x e = ap not (same_again x e)
more_differs Ambiguous x e = refl
more_differs (One g) x e = at (same_element g x) refl (same_element g e) refl
  where
    at : (a : Bool) → same_element g x ≡ a → (b : Bool) → same_element g e ≡ b → differs (if a then One g else Ambiguous) e ≡ (not (same_element g e) || not (same_element e x))
    at true is true is_too =
        let same : same_element e x ≡ true = ap (λ (k : ElementId). same_element k x) (sym (same_is g e is_too)) ∙ is in
        ap not is_too ∙ sym (ap (λ (b : Bool). not b || not (same_element e x)) is_too ∙ ap not same)
    at true is false is_too = ap not is_too ∙ sym (ap (λ (b : Bool). not b || not (same_element e x)) is_too)
    at false is true is_too =
        let other : same_element e x ≡ false = ap (λ (k : ElementId). same_element k x) (sym (same_is g e is_too)) ∙ is in
        sym (ap (λ (b : Bool). not b || not (same_element e x)) is_too ∙ ap not other)
    at false is false is_too = sym (ap (λ (b : Bool). not b || not (same_element e x)) is_too)

-- the name of a pair means its element too
pub adds_one : (old new : Names) (q : Exported) → ((n : List ℕ) → found_of new n ≡ (if bytes_eq q.name n then or_also (found_of old q.name) q.element else found_of old n)) → AddsClashes (λ p. clash p q) old new
adds_one old new q puts = record { tells = λ p. at p (bytes_eq q.name p.name) refl (bytes_eq p.name q.name) refl }
  where
    at : (p : Exported) (a : Bool) → bytes_eq q.name p.name ≡ a → (b : Bool) → bytes_eq p.name q.name ≡ b → clashes new p ≡ (clashes old p || (bytes_eq p.name q.name && not (same_element p.element q.element)))
    at p true is true is_too =
        let named : q.name ≡ p.name = (bytes_eq-Decides q.name p.name).0 is in
        let found : found_of new p.name ≡ or_also (found_of old p.name) q.element = puts p.name ∙ (ap (λ (b : Bool). if b then or_also (found_of old q.name) q.element else found_of old p.name) is ∙ ap (λ (n : List ℕ). or_also (found_of old n) q.element) named) in
        ap (λ (f : Found). differs f p.element) found ∙ (more_differs (found_of old p.name) q.element p.element ∙ sym (ap (λ (b : Bool). clashes old p || (b && not (same_element p.element q.element))) is_too))
    at p false is false is_too =
        let found : found_of new p.name ≡ found_of old p.name = puts p.name ∙ ap (λ (b : Bool). if b then or_also (found_of old q.name) q.element else found_of old p.name) is in
        ap (λ (f : Found). differs f p.element) found ∙ (sym (or_none (clashes old p)) ∙ sym (ap (λ (b : Bool). clashes old p || (b && not (same_element p.element q.element))) is_too))
    at p true is false is_too = absurd (unlike p is is_too)
      where
        unlike : (p : Exported) → bytes_eq q.name p.name ≡ true → bytes_eq p.name q.name ≡ false → ⊥
        unlike p is is_too = (let both = sym is_too ∙ (bytes_eq-Decides p.name q.name).1 (sym ((bytes_eq-Decides q.name p.name).0 is)) in cc both)
    at p false is true is_too = absurd (unlike p is is_too)
      where
        unlike : (p : Exported) → bytes_eq q.name p.name ≡ false → bytes_eq p.name q.name ≡ true → ⊥
        unlike p is is_too = (let both = sym is ∙ (bytes_eq-Decides q.name p.name).1 (sym ((bytes_eq-Decides p.name q.name).0 is_too)) in cc both)

-- what a name means is put into the table
pub puts : (old new : Names) (name : List ℕ) (f : Found) → ((n : List ℕ) → get_by (λ (k : Bor (List ℕ)). slice_cmp nat_cmp n k.now) new ≡ (if bytes_eq name n then Some f else get_by (λ (k : Bor (List ℕ)). slice_cmp nat_cmp n k.now) old)) → (n : List ℕ) → found_of new n ≡ (if bytes_eq name n then f else found_of old n)
puts old new name f h n = ap (λ (o : Option Found). unwrap_or o Nothing) (h n) ∙ at (bytes_eq name n)
  where
    at : (b : Bool) → unwrap_or (if b then Some f else get_by (λ (k : Bor (List ℕ)). slice_cmp nat_cmp n k.now) old) Nothing ≡ (if b then f else found_of old n)
    at true = refl
    at false = refl

pub adds_none : (names : Names) → AddsClashes (λ p. false) names names
adds_none names = record { tells = λ p. sym (or_none (clashes names p)) }

-- a pair that isn't brought, and one that is
pub not_brought : (b : Bool) (names : Names) (q : Exported) → b ≡ false → AddsClashes (λ p. b && clash p q) names names
not_brought b names q is = record { tells = λ p. sym (or_none (clashes names p)) ∙ sym (ap (λ (c : Bool). clashes names p || (c && clash p q)) is) }

pub brought : (b : Bool) (old new : Names) (q : Exported) → b ≡ true → AddsClashes (λ p. clash p q) old new → AddsClashes (λ p. b && clash p q) old new
brought b old new q is h = record { tells = λ p. h.tells p ∙ sym (ap (λ (c : Bool). clashes old p || (c && clash p q)) is) }

-- one after another
module _ {X : Type 0} (f : Exported → X → Bool) where
  any_more : (p : Exported) (qs : List X) (q : X) → list_any (f p) (qs ++ q ∷ []) ≡ (list_any (f p) qs || f p q)
  any_more p qs q = list_any-append (f p) qs (q ∷ []) ∙ ap (λ (b : Bool). list_any (f p) qs || b) (or_none (f p q))

  pub adds_more : (old mid new : Names) (qs : List X) (q : X) → AddsClashes (λ p. list_any (f p) qs) old mid → AddsClashes (λ p. f p q) mid new → AddsClashes (λ p. list_any (f p) (qs ++ q ∷ [])) old new
  adds_more old mid new qs q h k = record { tells = λ p. k.tells p ∙ (ap (λ (b : Bool). b || f p q) (h.tells p) ∙ (or_assoc (clashes old p) (list_any (f p) qs) (f p q) ∙ ap (λ (b : Bool). clashes old p || b) (sym (any_more p qs q)))) }

-- what the exports before one bring tells whether it is ambiguous
pub told_of : (libraries : List LibraryElement) (all : List (List Exported)) (library : LibraryElement) (earlier : List ExportEdge) (e : ExportEdge) (names : Names) → ((p : Exported) → clashes names p ≡ list_any (clashes_with libraries all library p) earlier) → list_any (λ p. is_brought library e.combinators p && clashes names p) (pairs_of libraries all e.library) ≡ is_ambiguous libraries all library earlier e
told_of libraries all library earlier e names tells = λ i. list_any (λ p. is_brought library e.combinators p && tells p i) (pairs_of libraries all e.library)

pub told_more : (libraries : List LibraryElement) (all : List (List Exported)) (library : LibraryElement) (earlier : List ExportEdge) (e : ExportEdge) (old new : Names) → ((p : Exported) → clashes old p ≡ list_any (clashes_with libraries all library p) earlier) → AddsClashes (λ p. clashes_with libraries all library p e) old new → (p : Exported) → clashes new p ≡ list_any (clashes_with libraries all library p) (earlier ++ e ∷ [])
told_more libraries all library earlier e old new tells h p = h.tells p ∙ (ap (λ (b : Bool). b || clashes_with libraries all library p e) (tells p) ∙ sym (any_more (clashes_with libraries all library) p earlier e))

-- one export more is told of
module _ (libraries : List LibraryElement) (all : List (List Exported)) (library : LibraryElement) where
  abbrev pub Told : (told : List Bool) → Type 0
  Told told = (k : ℕ) (e : ExportEdge) → k < length told → get_or told k false ≡ is_ambiguous libraries all library (take k library.exports) (get_or library.exports k e)

  pub one_told : (told : List Bool) (i : ℕ) (d : ExportEdge) (is : Bool) → length told ≡ i → i < length library.exports → is ≡ is_ambiguous libraries all library (take i library.exports) (get_or library.exports i d) → Told told → Told (told ++ is ∷ [])
  one_told told i d is size within here h k e less = elim (cases_eq k i) [
    | inl same ↦
        (let at_i : get_or (told ++ is ∷ []) k false ≡ is = get_or_push told is false k (size ∙ sym same) in
        at_i ∙ (here ∙ (ap (λ (n : ℕ). is_ambiguous libraries all library (take n library.exports) (get_or library.exports n d)) (sym same) ∙ ap (is_ambiguous libraries all library (take k library.exports)) (get_or_default library.exports k d e (omega (arith, same, within))))))
    | inr other ↦
        (let before : k < length told = omega (arith, less, other, size, length_push told is) in
        get_or_append_left told (is ∷ []) false k before ∙ h k e before)
  ]

  pub all_told : (told : List Bool) → length told ≡ length library.exports → Told told → TellsAmbiguous libraries all library told
  all_told told size h = record { size = size; each = λ k. at k (slice_get_cases library.exports k).1 }
    where
      at : (k : ℕ) → ((x : ExportEdge) × (k < length library.exports) × (slice_get library.exports k ≡ Some x) × (get_or library.exports k x ≡ x)) ⊎ ((length library.exports ≤ k) × (slice_get library.exports k ≡ None)) → get_or told k false ≡ option_map_or (λ e. is_ambiguous libraries all library (take k library.exports) e) (slice_get library.exports k) false
      at k (inl (x, within, is, read)) = h k x (omega (arith, within, size)) ∙ (ap (is_ambiguous libraries all library (take k library.exports)) read ∙ sym (ap (λ (o : Option ExportEdge). option_map_or (λ e. is_ambiguous libraries all library (take k library.exports) e) o false) is))
      at k (inr (past, none)) = get_or_past told k false (omega (arith, past, size)) ∙ sym (ap (λ (o : Option ExportEdge). option_map_or (λ e. is_ambiguous libraries all library (take k library.exports) e) o false) none)
