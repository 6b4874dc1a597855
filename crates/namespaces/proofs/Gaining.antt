-- What libraries export, as one declaration after another is looked at.
use Rattle.std.proofs.Common.{◌≡◌, ◌⊎◌, inl, inr, ℕ, zero, suc, ◌<◌, ◌≤◌, true, false, ◌&&◌, bytes_eq, List, [], ◌∷◌, ◌++◌, length, set, replicate, Contains, Some, slice_get, position, refl, sym, ap, ◌∙◌, subst, arith}
use Rattle.std.proofs.lemmas.Bool.{cases_eq, or_cases, and_parts}
use Rattle.std.proofs.lemmas.List.{get_or-set_same, get_or-set_other, length-set, length-replicate}
use Rattle.std.proofs.lemmas.List.Elements.{Contains-append_left, Contains-push, Contains-push_cases}
use Rattle.std.proofs.lemmas.List.Quantifiers.{position-Some}
use Rattle.std.proofs.lemmas.Option.{slice_get_within, get_or_from_slice_get}
use Rattle.std.proofs.lemmas.Slice.Eq.{bytes_eq-Decides}
use Rattle.element_terms.specs.declared.libraries.LibraryElement.{LibraryElement}
use Rattle.element_terms.specs.declared.declarations.Declared.{Declared}
use Rattle.element_terms.specs.NameTexts.{is_private, is_setter_of, setter_of}
use Rattle.element_terms.specs.Declarations.{declares, has_setter}
use Rattle.library_graph.specs.Paths.{Path, stays, goes}
use Rattle.namespaces.specs.declared.elements.ElementId.{ElementId}
use Rattle.namespaces.specs.declared.elements.Exported.{Exported}
use Rattle.namespaces.specs.Exports.{Brings, Exports, IsExport, own, brought, place_in}
use Rattle.namespaces.specs.Links.{AreExporting}
use Rattle.namespaces.specs.Namespaces.{AddsPair, AreNamespaces, Covers, CoversAll, CoversLibrary, Gains, pairs_at}
use Rattle.namespaces.proofs.LinkLemmas.{no_element, same_at}

-- one place more has the pair
pub no_place : (pair : Exported) (all : List (List Exported)) → AddsPair [] pair all all
no_place pair all = record {
  size = refl;
  keeps = λ l p w. w;
  only = λ l p w. inl w;
  all = λ l w. absurd (no_element w);
}

module _ (places : List ℕ) (place : ℕ) (pair : Exported) (old mid : List (List Exported)) (h : AddsPair places pair old mid) (within : place < length mid) where
  new : List (List Exported)
  new = set mid place (pairs_at mid place ++ pair ∷ [])

  at_place : pairs_at new place ≡ pairs_at mid place ++ pair ∷ []
  unfolding new
  at_place = get_or-set_same mid place (pairs_at mid place ++ pair ∷ []) [] within

  at_other : (l : ℕ) → (l ≡ place → ⊥) → pairs_at new l ≡ pairs_at mid l
  unfolding new
  at_other l other = get_or-set_other mid place l (pairs_at mid place ++ pair ∷ []) [] other

  still : (l : ℕ) (p : Exported) → Contains (pairs_at mid l) p → Contains (pairs_at new l) p
  still l p w = elim (cases_eq l place) [
    | inl same ↦ subst (λ (k : ℕ). Contains (pairs_at new k) p) (sym same) (subst (λ (ps : List Exported). Contains ps p) (sym at_place) (Contains-append_left (pairs_at mid place) (pair ∷ []) p (subst (λ (k : ℕ). Contains (pairs_at mid k) p) same w)))
    | inr other ↦ subst (λ (ps : List Exported). Contains ps p) (sym (at_other l other)) w
  ]

  only_more : (l : ℕ) (p : Exported) → Contains (pairs_at new l) p → Contains (pairs_at old l) p ⊎ (Contains (places ++ place ∷ []) l × (pair ≡ p))
  only_more l p w = elim (cases_eq l place) [
    | inl same ↦ elim (Contains-push_cases (pairs_at mid place) pair p (subst (λ (ps : List Exported). Contains ps p) at_place (subst (λ (k : ℕ). Contains (pairs_at new k) p) same w))) [
      | inl earlier ↦ back l p (subst (λ (k : ℕ). Contains (pairs_at mid k) p) (sym same) earlier)
      | inr is ↦ inr (subst (λ (k : ℕ). Contains (places ++ place ∷ []) k) (sym same) (Contains-push places place), is)
    ]
    | inr other ↦ back l p (subst (λ (ps : List Exported). Contains ps p) (at_other l other) w)
  ]
    where
      back : (l : ℕ) (p : Exported) → Contains (pairs_at mid l) p → Contains (pairs_at old l) p ⊎ (Contains (places ++ place ∷ []) l × (pair ≡ p))
      back l p w = elim (h.only l p w) [ inl before ↦ inl before | inr put ↦ inr (Contains-append_left places (place ∷ []) l put.0, put.1) ]

  pub one_place : AddsPair (places ++ place ∷ []) pair old (set mid place (pairs_at mid place ++ pair ∷ []))
  unfolding new
  one_place = record {
    size = length-set mid place (pairs_at mid place ++ pair ∷ []) ∙ h.size;
    keeps = λ l p w. still l p (h.keeps l p w);
    only = only_more;
    all = λ l w. elim (Contains-push_cases places place l w) [
      | inl earlier ↦ still l pair (h.all l earlier)
      | inr is ↦ subst (λ (k : ℕ). Contains (pairs_at new k) pair) is (subst (λ (ps : List Exported). Contains ps pair) (sym at_place) (Contains-push (pairs_at mid place) pair))
    ];
  }

-- gains, one after another
pub no_gain : (libraries : List LibraryElement) (all : List (List Exported)) → Gains libraries all all
no_gain libraries all = record { size = refl; keeps = λ l p w. w; only = λ l p w. inl w }

pub both_gains : (libraries : List LibraryElement) (a b c : List (List Exported)) → Gains libraries a b → Gains libraries b c → Gains libraries a c
both_gains libraries a b c g h = record {
  size = h.size ∙ g.size;
  keeps = λ l p w. h.keeps l p (g.keeps l p w);
  only = λ l p w. elim (h.only l p w) [ inl before ↦ g.only l p before | inr is ↦ inr is ];
}

pub covers_still : (libraries : List LibraryElement) (place at : ℕ) (name : List ℕ) (b c : List (List Exported)) → Gains libraries b c → Covers libraries place at name b → Covers libraries place at name c
covers_still libraries place at name b c g h = record { covers = λ library stands shown declared l path. g.keeps l (record { name = name; element = record { library = library.id; place = at } }) (h.covers library stands shown declared l path) }

pub all_still : (libraries : List LibraryElement) (place at : ℕ) (b c : List (List Exported)) → Gains libraries b c → CoversAll libraries place at b → CoversAll libraries place at c
all_still libraries place at b c g h = record { names = λ name. covers_still libraries place at name b c g (h.names name) }

pub library_still : (libraries : List LibraryElement) (place : ℕ) (b c : List (List Exported)) → Gains libraries b c → CoversLibrary libraries place b → CoversLibrary libraries place c
library_still libraries place b c g h = record { declared = λ at. all_still libraries place at b c g (h.declared at) }

-- along exports that bring a name comes what it means
pub along : (libraries : List LibraryElement) (name : List ℕ) (element : ElementId) {a b : ℕ} → Path (Brings libraries name) a b → Exports libraries name b element → Exports libraries name a element
along libraries name element stays h = h
along libraries name element (goes {a} {b} step path) h = brought {from = a} {to = b} step (along libraries name element path h)

-- the places from which exports bring a name are those of libraries
pub exporting_below : (libraries : List LibraryElement) (name : List ℕ) (a b : ℕ) → b < length libraries → Path (Brings libraries name) a b → a < length libraries
exporting_below libraries name a b below path = go path below where
  go : {x y : ℕ} → Path (Brings libraries name) x y → y < length libraries → x < length libraries
  go stays less = less
  go (goes {a} {b} step rest) less = slice_get_within libraries a step.exporter step.stands

-- the pair of a declaration is what the libraries export that bring its name
module _ (libraries : List LibraryElement) (place at : ℕ) (name : List ℕ) (library : LibraryElement) (old new : List (List Exported)) (places : List ℕ) (stands : slice_get libraries place ≡ Some library) where
  pub pair_gains : is_private name ≡ false → place_in library name ≡ Some at → AreExporting libraries name place places → AddsPair places (record { name = name; element = record { library = library.id; place = at } }) old new → Gains libraries old new
  pair_gains shown declared e h = record {
    size = h.size;
    keeps = h.keeps;
    only = λ l p w. elim (h.only l p w) [
      | inl before ↦ inl before
      | inr put ↦ inr (subst (λ (q : Exported). IsExport libraries l q) put.1 (record { shown = shown; exports = along libraries name (record { library = library.id; place = at }) (e.only l put.0) (own {place = place} library at stands declared) }))
    ];
  }

  pub pair_covers : AreExporting libraries name place places → AddsPair places (record { name = name; element = record { library = library.id; place = at } }) old new → Covers libraries place at name new
  pair_covers e h = record {
    covers = λ other found shown declared l path.
        (let same : library ≡ other = same_at libraries place library other stands found in
        subst (λ (k : LibraryElement). Contains (pairs_at new l) (record { name = name; element = record { library = k.id; place = at } })) same (h.all l (e.all l path)));
  }

-- a declaration that doesn't give the name its meaning has nothing to cover
pub covers_nothing : (libraries : List LibraryElement) (place at : ℕ) (name : List ℕ) (all : List (List Exported)) → ((library : LibraryElement) → slice_get libraries place ≡ Some library → is_private name ≡ false → place_in library name ≡ Some at → ⊥) → Covers libraries place at name all
covers_nothing libraries place at name all never = record { covers = λ library stands shown declared l path. absurd (never library stands shown declared) }

-- a declaration has no other names than its own and that of the setter that comes with it
module _ (libraries : List LibraryElement) (place at : ℕ) (library : LibraryElement) (d : Declared) (all : List (List Exported)) (stands : slice_get libraries place ≡ Some library) (read : slice_get library.declared at ≡ Some d) where
  is_one : (other : LibraryElement) (name : List ℕ) → slice_get libraries place ≡ Some other → place_in other name ≡ Some at → declares d name ≡ true
  is_one other name found declared =
      let same : other ≡ library = same_at libraries place other library found stands in
      let here : place_in library name ≡ Some at = subst (λ (k : LibraryElement). place_in k name ≡ Some at) same declared in
      let p = position-Some (λ (k : Declared). declares k name) library.declared at d here in
      sym (ap (λ (k : Declared). declares k name) (get_or_from_slice_get library.declared at d d read)) ∙ p.1

  pub name_and_setter : Covers libraries place at d.name all → Covers libraries place at (setter_of d.name) all → CoversAll libraries place at all
  name_and_setter h k = record {
    names = λ name. record {
      covers = λ other found shown declared l path.
          elim (or_cases (bytes_eq d.name name) (has_setter d.kind && is_setter_of d.name name) (is_one other name found declared)) [
            | inl is ↦ (let e : d.name ≡ name = (bytes_eq-Decides d.name name).0 is in
                (subst (λ (n : List ℕ). Covers libraries place at n all) e h).covers other found shown declared l path)
            | inr is ↦ (let e : setter_of d.name ≡ name = (bytes_eq-Decides (setter_of d.name) name).0 (and_parts (has_setter d.kind) (is_setter_of d.name name) is).1 in
                (subst (λ (n : List ℕ). Covers libraries place at n all) e k).covers other found shown declared l path)
          ];
    };
  }

  pub name_alone : has_setter d.kind ≡ false → Covers libraries place at d.name all → CoversAll libraries place at all
  name_alone none h = record {
    names = λ name. record {
      covers = λ other found shown declared l path.
          elim (or_cases (bytes_eq d.name name) (has_setter d.kind && is_setter_of d.name name) (is_one other name found declared)) [
            | inl is ↦ (let e : d.name ≡ name = (bytes_eq-Decides d.name name).0 is in
                (subst (λ (n : List ℕ). Covers libraries place at n all) e h).covers other found shown declared l path)
            | inr is ↦ (let both = sym none ∙ (and_parts (has_setter d.kind) (is_setter_of d.name name) is).0 in cc both)
          ];
    };
  }

-- past the last declaration there is nothing to cover
pub past_declared : (libraries : List LibraryElement) (place at : ℕ) (library : LibraryElement) (all : List (List Exported)) → slice_get libraries place ≡ Some library → length library.declared ≤ at → CoversAll libraries place at all
past_declared libraries place at library all stands past = record {
  names = λ name. covers_nothing libraries place at name all (λ other found shown declared.
      (let same : other ≡ library = same_at libraries place other library found stands in
      let here : place_in library name ≡ Some at = subst (λ (k : LibraryElement). place_in k name ≡ Some at) same declared in
      go library.declared name here past));
}
  where
    go : (ds : List Declared) (name : List ℕ) → position (λ d. declares d name) ds ≡ Some at → length ds ≤ at → ⊥
    go [] name h p = (cc h)
    go (d ∷ ds) name h p = let w = (position-Some (λ (k : Declared). declares k name) (d ∷ ds) at d h).0 in omega (arith, w, p)

-- each library has what it exports
record Origin (libraries : List LibraryElement) (name : List ℕ) (place : ℕ) (element : ElementId) : Type 0 where
  pub origin : ℕ
  pub library : LibraryElement
  pub at : ℕ
  pub stands : slice_get libraries origin ≡ Some library
  pub declared : place_in library name ≡ Some at
  pub path : Path (Brings libraries name) place origin
  pub is : record { library = library.id; place = at } ≡ element

origin_of : (libraries : List LibraryElement) (name : List ℕ) {place : ℕ} {element : ElementId} → Exports libraries name place element → Origin libraries name place element
origin_of libraries name (own {place} library at stands declared) = record { origin = place; library = library; at = at; stands = stands; declared = declared; path = stays; is = refl }
origin_of libraries name (brought {from} {to} {element} step rest) =
    let o = origin_of libraries name rest in
    record { origin = o.origin; library = o.library; at = o.at; stands = o.stands; declared = o.declared; path = goes {a = from} {b = to} step o.path; is = o.is }

no_pairs_at : (n l : ℕ) → pairs_at (replicate n []) l ≡ []
no_pairs_at zero l = refl
no_pairs_at (suc n) zero = refl
no_pairs_at (suc n) (suc l) = no_pairs_at n l

pub are_namespaces : (libraries : List LibraryElement) (all : List (List Exported)) → Gains libraries (replicate (length libraries) []) all → ((k : ℕ) → k < length libraries → CoversLibrary libraries k all) → AreNamespaces libraries all
are_namespaces libraries all gains covers = record {
  size = gains.size ∙ length-replicate (length libraries) [];
  each = λ place within. record {
    only = λ pair w. elim (gains.only place pair w) [
      | inl before ↦ absurd (no_element (subst (λ (ps : List Exported). Contains ps pair) (no_pairs_at (length libraries) place) before))
      | inr is ↦ is
    ];
    all = λ pair is.
        (let o = origin_of libraries pair.name is.exports in
        let below : o.origin < length libraries = slice_get_within libraries o.origin o.library o.stands in
        let has = (((covers o.origin below).declared o.at).names pair.name).covers o.library o.stands is.shown o.declared place o.path in
        subst (λ (e : ElementId). Contains (pairs_at all place) (record { name = pair.name; element = e })) o.is has);
  };
}
