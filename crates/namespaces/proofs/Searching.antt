-- A search for the libraries that export a name of one.
use Rattle.std.proofs.Common.{◌≡◌, ◌⊎◌, inl, inr, ℕ, zero, suc, ◌+◌, ◌<◌, ◌≤◌, Bool, true, false, not, cond, List, [], ◌∷◌, ◌++◌, length, map, filter, set, get_or, Contains, Some, slice_get, refl, sym, ap, ◌∙◌, subst, arith}
use Rattle.std.proofs.lemmas.Bool.{cases_eq, eqb-true}
use Rattle.std.proofs.lemmas.List.{append-nil, append_assoc, get_or-set_same, get_or-set_other, get_or_append_left, get_or_default, length-append, length-map, length-set}
use Rattle.std.proofs.lemmas.List.Elements.{Contains-append_left, Contains-append_right, Contains-append_cases, Contains-get_or, Contains-push, Contains-push_cases}
use Rattle.std.proofs.lemmas.List.Sums.{get_or-le-sum_by, length-filter, sum_by-set}
use Rattle.std.proofs.lemmas.Option.{same_Some, slice_get_within}
use Rattle.element_terms.specs.declared.libraries.LibraryElement.{LibraryElement}
use Rattle.element_terms.specs.declared.libraries.ExportEdge.{ExportEdge}
use Rattle.library_graph.specs.Paths.{Path, stays, goes}
use Rattle.namespaces.specs.declared.links.Link.{Link}
use Rattle.namespaces.specs.declared.search.Search.{Search}
use Rattle.namespaces.specs.Exports.{Brings, place_of}
use Rattle.namespaces.specs.Links.{AreExporting, AreLinks, Finds, IsIdle, IsLink, IsMarked, Notes, Passes, StartsAt, is_idle, links_to, unmarked}
use Rattle.namespaces.proofs.LinkLemmas.{no_element, same_at}

abbrev weight : Bool → ℕ
weight b = cond (not b) 1 0

-- one mark more
module _ (marks : List Bool) (place : ℕ) (within : place < length marks) (free : get_or marks place false ≡ false) where
  pub one_less : unmarked (set marks place true) + 1 ≡ unmarked marks
  one_less =
      let one : weight (get_or marks place false) ≡ 1 = ap weight free in
      let changed = sum_by-set weight marks place true false within in
      omega (arith, changed, one)

  pub one_more : (a : ℕ) → IsMarked (set marks place true) a → IsMarked marks a ⊎ (a ≡ place)
  one_more a h = elim (cases_eq a place) [
    | inl same ↦ inr same
    | inr other ↦ inl (sym (get_or-set_other marks place a true false other) ∙ h)
  ]

  pub marked_still : (a : ℕ) → IsMarked marks a → IsMarked (set marks place true) a
  marked_still a h = elim (cases_eq a place) [
    | inl same ↦ subst (λ (k : ℕ). IsMarked (set marks place true) k) (sym same) (get_or-set_same marks place true false within)
    | inr other ↦ get_or-set_other marks place a true false other ∙ h
  ]

  pub marked_now : IsMarked (set marks place true) place
  marked_now = get_or-set_same marks place true false within

-- where no place is left, each is marked
pub none_left : (marks : List Bool) (a : ℕ) → unmarked marks ≡ 0 → a < length marks → IsMarked marks a
none_left marks a none within = by (get_or marks a false) refl (omega (arith, get_or-le-sum_by weight marks a false within, none))
  where
    by : (b : Bool) → get_or marks a false ≡ b → weight (get_or marks a false) ≤ 0 → IsMarked marks a
    by true is h = is
    by false is h = (let one : weight (get_or marks a false) ≡ 1 = ap weight is in absurd (omega (arith, one, h)))

-- the start of a search
idle_at : (libraries : List LibraryElement) (a : ℕ) → IsMarked (map is_idle libraries) a → (exporter : LibraryElement) → slice_get libraries a ≡ Some exporter → is_idle exporter ≡ true
idle_at [] a h exporter stands = (cc stands)
idle_at (l ∷ more) zero h exporter stands = subst (λ (k : LibraryElement). is_idle k ≡ true) (same_Some l exporter stands) h
idle_at (l ∷ more) (suc a) h exporter stands = idle_at more a h exporter stands

pub started : (idle : List Bool) (to : ℕ) (s : Search) → s.marks.items ≡ set idle to true → s.left ≡ length (filter not s.marks.items) → s.places.items ≡ to ∷ [] → StartsAt idle to s
started idle to s marks left places = record { marks = marks; left = left ∙ length-filter not s.marks.items; one = places }

-- one link finds nothing where its place is marked or the name doesn't pass, and else its place
module _ (libraries : List LibraryElement) (name : List ℕ) (link : Link) (old : Search) (left : old.left ≡ unmarked old.marks.items) where
  pub finds_nothing : IsMarked old.marks.items link.from ⊎ (Passes libraries name link → ⊥) → Finds libraries name (link ∷ []) old old
  finds_nothing why = record {
    size = refl;
    left = left;
    more = [];
    found = sym (append-nil old.places.items);
    only = λ a w. absurd (no_element w);
    keeps = λ a h. h;
    marked = λ a h. inl h;
    all = λ l w p. elim (Contains-push_cases [] link l w) [
      | inl earlier ↦ absurd (no_element earlier)
      | inr is ↦ elim why [
        | inl marked ↦ subst (λ (k : Link). IsMarked old.marks.items k.from) is marked
        | inr never ↦ absurd (never (subst (λ (k : Link). Passes libraries name k) (sym is) p))
      ]
    ];
    work = omega arith;
  }

  module _ (new : Search) (within : link.from < length old.marks.items) (free : get_or old.marks.items link.from false ≡ false) (passes : Passes libraries name link) (n : Notes link.from old new) where
    pub finds_one : Finds libraries name (link ∷ []) old new
    finds_one = record {
      size = ap (λ (ms : List Bool). length ms) n.marks ∙ length-set old.marks.items link.from true;
      left = (let less = one_less old.marks.items link.from within free in
          let now : unmarked new.marks.items ≡ unmarked (set old.marks.items link.from true) = ap (λ (ms : List Bool). unmarked ms) n.marks in
          omega (arith, less, now, left, n.left));
      more = link.from ∷ [];
      found = n.places;
      only = λ a w. elim (Contains-push_cases [] link.from a w) [
        | inl earlier ↦ absurd (no_element earlier)
        | inr is ↦ (link, Contains-push [] link, passes, is)
      ];
      keeps = λ a h. subst (λ (ms : List Bool). IsMarked ms a) (sym n.marks) (marked_still old.marks.items link.from within free a h);
      marked = λ a h. elim (one_more old.marks.items link.from within free a (subst (λ (ms : List Bool). IsMarked ms a) n.marks h)) [
        | inl before ↦ inl before
        | inr is ↦ inr (subst (λ (k : ℕ). Contains (link.from ∷ []) k) (sym is) (Contains-push [] link.from))
      ];
      all = λ l w p. elim (Contains-push_cases [] link l w) [
        | inl earlier ↦ absurd (no_element earlier)
        | inr is ↦ subst (λ (k : Link). IsMarked new.marks.items k.from) is (subst (λ (ms : List Bool). IsMarked ms link.from) (sym n.marks) (marked_now old.marks.items link.from within free))
      ];
      work = omega (arith, n.left);
    }

-- no link finds nothing
pub finds_none : (libraries : List LibraryElement) (name : List ℕ) (s : Search) → s.left ≡ unmarked s.marks.items → Finds libraries name [] s s
finds_none libraries name s left = record {
  size = refl;
  left = left;
  more = [];
  found = sym (append-nil s.places.items);
  only = λ a w. absurd (no_element w);
  keeps = λ a h. h;
  marked = λ a h. inl h;
  all = λ l w p. absurd (no_element w);
  work = omega arith;
}

-- one link behind others
pub finds_more : (libraries : List LibraryElement) (name : List ℕ) (links : List Link) (link : Link) (old mid new : Search) → Finds libraries name links old mid → Finds libraries name (link ∷ []) mid new → Finds libraries name (links ++ link ∷ []) old new
finds_more libraries name links link old mid new g h = record {
  size = h.size ∙ g.size;
  left = h.left;
  more = g.more ++ h.more;
  found = h.found ∙ (ap (λ (ps : List ℕ). ps ++ h.more) g.found ∙ append_assoc old.places.items g.more h.more);
  only = λ a w. elim (Contains-append_cases g.more h.more a w) [
    | inl first ↦ (let o = g.only a first in (o.0, Contains-append_left links (link ∷ []) o.0 o.1, o.2, o.3))
    | inr second ↦ (let o = h.only a second in (o.0, Contains-append_right links (link ∷ []) o.0 o.1, o.2, o.3))
  ];
  keeps = λ a w. h.keeps a (g.keeps a w);
  marked = λ a w. elim (h.marked a w) [
    | inl before ↦ elim (g.marked a before) [
      | inl first ↦ inl first
      | inr found ↦ inr (Contains-append_left g.more h.more a found)
    ]
    | inr found ↦ inr (Contains-append_right g.more h.more a found)
  ];
  all = λ l w p. elim (Contains-push_cases links link l w) [
    | inl earlier ↦ h.keeps l.from (g.all l earlier p)
    | inr is ↦ h.all l (subst (λ (k : Link). Contains (link ∷ []) k) is (Contains-push [] link)) p
  ];
  work = omega (arith, g.work, h.work, length-append g.more h.more);
}

-- What is found while a search is at a place of the list of those that are found: from each before it every library that brings the name is marked.
pub record Searching (libraries : List LibraryElement) (name : List ℕ) (to at : ℕ) (s : Search) : Type 0 where
  pub size : length s.marks.items ≡ length libraries
  pub left : s.left ≡ unmarked s.marks.items
  pub at_most : at ≤ length s.places.items
  pub root : Contains s.places.items to
  pub only : (a : ℕ) → Contains s.places.items a → Path (Brings libraries name) a to
  pub marked : (a : ℕ) → IsMarked s.marks.items a → Contains s.places.items a ⊎ IsIdle libraries a
  pub closed : (k a : ℕ) → k < at → Brings libraries name a (get_or s.places.items k 0) → IsMarked s.marks.items a

pub starts : (libraries : List LibraryElement) (name : List ℕ) (to : ℕ) (s : Search) → StartsAt (map is_idle libraries) to s → Searching libraries name to 0 s
starts libraries name to s h = record {
  size = ap (λ (ms : List Bool). length ms) h.marks ∙ (length-set (map is_idle libraries) to true ∙ length-map libraries is_idle);
  left = h.left;
  at_most = omega arith;
  root = here;
  only = λ a w. elim (Contains-push_cases [] to a (subst (λ (ps : List ℕ). Contains ps a) h.one w)) [
    | inl earlier ↦ absurd (no_element earlier)
    | inr is ↦ subst (λ (k : ℕ). Path (Brings libraries name) k to) is stays
  ];
  marked = λ a w. elim (cases_eq a to) [
    | inl is ↦ inl (subst (λ (k : ℕ). Contains s.places.items k) (sym is) here)
    | inr other ↦ inr (record { none = idle_at libraries a (sym (get_or-set_other (map is_idle libraries) to a true false other) ∙ subst (λ (ms : List Bool). IsMarked ms a) h.marks w) })
  ];
  closed = λ k a less b. absurd (omega (arith, less));
}
  where
    here : Contains s.places.items to
    here = subst (λ (ps : List ℕ). Contains ps to) (sym h.one) (Contains-push [] to)

module _ (libraries : List LibraryElement) (count : ℕ) (size : length libraries ≡ count) (name : List ℕ) (to : ℕ) (links : List (List Link)) (are : AreLinks libraries count 0 links) where
  -- a link along which the name goes is an export that brings it
  brings_by : (place : ℕ) (link : Link) → Contains (links_to links place) link → Passes libraries name link → Brings libraries name link.from place
  brings_by place link w p =
      let o = are.only place link w in
      let is = o.0 in
      let library : is.exporter ≡ p.exporter = same_at libraries link.from is.exporter p.exporter is.stands p.stands in
      let one : is.edge ≡ p.edge = same_at p.exporter.exports link.export is.edge p.edge (subst (λ (l : LibraryElement). slice_get l.exports link.export ≡ Some is.edge) library is.written) p.written in
      let target : place_of libraries p.edge.library ≡ Some link.to = subst (λ (e : ExportEdge). place_of libraries e.library ≡ Some link.to) one is.target in
      record { exporter = p.exporter; export = link.export; edge = p.edge; stands = p.stands; written = p.written; target = target ∙ ap Some o.1; undeclared = p.undeclared; passes = p.passes }

  module _ (at : ℕ) (s new : Search) (h : Searching libraries name to at s) (here : at < length s.places.items) (f : Finds libraries name (links_to links (get_or s.places.items at 0)) s new) where
    place : ℕ
    place = get_or s.places.items at 0

    same_place : (k : ℕ) → k < length s.places.items → get_or new.places.items k 0 ≡ get_or s.places.items k 0
    same_place k within = ap (λ (ps : List ℕ). get_or ps k 0) f.found ∙ get_or_append_left s.places.items f.more 0 k within

    marked_from : (a : ℕ) → Brings libraries name a (get_or s.places.items at 0) → IsMarked new.marks.items a
    marked_from a b =
        let link : Link = record { from = a; export = b.export; to = get_or s.places.items at 0 } in
        let is : IsLink libraries link = record { exporter = b.exporter; edge = b.edge; stands = b.stands; written = b.written; target = b.target } in
        let below : a < length libraries = slice_get_within libraries a b.exporter b.stands in
        f.all link (are.all link is (inl (omega (arith, below, size)))) (record { exporter = b.exporter; edge = b.edge; stands = b.stands; written = b.written; undeclared = b.undeclared; passes = b.passes })

    pub searches : Searching libraries name to (at + 1) new
    searches = record {
      size = f.size ∙ h.size;
      left = f.left;
      at_most = (let longer : length new.places.items ≡ length s.places.items + length f.more = ap (λ (ps : List ℕ). length ps) f.found ∙ length-append s.places.items f.more in omega (arith, here, longer));
      root = subst (λ (ps : List ℕ). Contains ps to) (sym f.found) (Contains-append_left s.places.items f.more to h.root);
      only = λ a w. elim (Contains-append_cases s.places.items f.more a (subst (λ (ps : List ℕ). Contains ps a) f.found w)) [
        | inl before ↦ h.only a before
        | inr found ↦ (let o = f.only a found in
            let step : Brings libraries name o.0.from (get_or s.places.items at 0) = brings_by (get_or s.places.items at 0) o.0 o.1 o.2 in
            subst (λ (k : ℕ). Path (Brings libraries name) k to) o.3 (goes {a = o.0.from} {b = get_or s.places.items at 0} step (h.only (get_or s.places.items at 0) (Contains-get_or s.places.items at 0 here))))
      ];
      marked = λ a w. elim (f.marked a w) [
        | inl before ↦ elim (h.marked a before) [
          | inl found ↦ inl (subst (λ (ps : List ℕ). Contains ps a) (sym f.found) (Contains-append_left s.places.items f.more a found))
          | inr idle ↦ inr idle
        ]
        | inr found ↦ inl (subst (λ (ps : List ℕ). Contains ps a) (sym f.found) (Contains-append_right s.places.items f.more a found))
      ];
      closed = λ k a less b. elim (cases_eq k at) [
        | inl same ↦ marked_from a (subst (λ (j : ℕ). Brings libraries name a (get_or s.places.items j 0)) same (subst (λ (p : ℕ). Brings libraries name a p) (same_place k (omega (arith, less, here))) b))
        | inr other ↦ f.keeps a (h.closed k a (omega (arith, less, other)) (subst (λ (p : ℕ). Brings libraries name a p) (same_place k (omega (arith, less, here))) b))
      ];
    }

-- at the end of the list, or where no library is left, all are found
module _ (libraries : List LibraryElement) (name : List ℕ) (to at : ℕ) (s : Search) (h : Searching libraries name to at s) (end : (length s.places.items ≤ at) ⊎ (s.left ≡ 0)) where
  marked_before : (a b : ℕ) → Contains s.places.items b → Brings libraries name a b → IsMarked s.marks.items a
  marked_before a b w step = elim end [
    | inl past ↦ (let read : get_or s.places.items w.0 0 ≡ b = get_or_default s.places.items w.0 0 b w.1 ∙ w.2 in
        h.closed w.0 a (omega (arith, w.1, past)) (subst (λ (p : ℕ). Brings libraries name a p) (sym read) step))
    | inr none ↦ (let below = slice_get_within libraries a step.exporter step.stands in
        none_left s.marks.items a (sym h.left ∙ none) (omega (arith, below, h.size)))
  ]

  not_idle : (a b : ℕ) → Brings libraries name a b → IsIdle libraries a → ⊥
  not_idle a b step idle =
      let within = slice_get_within step.exporter.exports step.export step.edge step.written in
      let empty : length step.exporter.exports ≡ 0 = eqb-true (length step.exporter.exports) 0 (idle.none step.exporter step.stands) in
      omega (arith, within, empty)

  found : {a b : ℕ} → Path (Brings libraries name) a b → Contains s.places.items b → Contains s.places.items a
  found stays w = w
  found (goes {a} {b} step rest) w =
      elim (h.marked a (marked_before a b (found rest w) step)) [
        | inl is ↦ is
        | inr idle ↦ absurd (not_idle a b step idle)
      ]

  pub all_found : AreExporting libraries name to s.places.items
  all_found = record {
    only = h.only;
    all = λ a path. found path h.root;
  }

-- a place to which no link leads is exported from nowhere else
last_step : {leads : ℕ → ℕ → Type 0} {a b : ℕ} → Path leads a b → (a ≡ b) ⊎ ((x : ℕ) × leads x b)
last_step stays = inl refl
last_step {leads} (goes {a} {b} {c} step path) = elim (last_step path) [
  | inl is ↦ inr (a, subst (λ (k : ℕ). leads a k) is step)
  | inr last ↦ inr last
]

pub alone : (libraries : List LibraryElement) (count : ℕ) (size : length libraries ≡ count) (name : List ℕ) (to : ℕ) (links : List (List Link)) (are : AreLinks libraries count 0 links) → links_to links to ≡ [] → AreExporting libraries name to (to ∷ [])
alone libraries count size name to links are none = record {
  only = λ a w. elim (Contains-push_cases [] to a w) [
    | inl earlier ↦ absurd (no_element earlier)
    | inr is ↦ subst (λ (k : ℕ). Path (Brings libraries name) k to) is stays
  ];
  all = λ a p. elim (last_step p) [
    | inl is ↦ subst (λ (k : ℕ). Contains (to ∷ []) k) (sym is) (Contains-push [] to)
    | inr last ↦ absurd (no_link last.0 last.1)
  ];
}
  where
    no_link : (x : ℕ) → Brings libraries name x to → ⊥
    no_link x b =
        let link : Link = record { from = x; export = b.export; to = to } in
        let is : IsLink libraries link = record { exporter = b.exporter; edge = b.edge; stands = b.stands; written = b.written; target = b.target } in
        let below : x < length libraries = slice_get_within libraries x b.exporter b.stands in
        no_element (subst (λ (ls : List Link). Contains ls link) none (are.all link is (inl (omega (arith, below, size)))))
