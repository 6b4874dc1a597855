-- Visits one after another: one more, the first that is refused, and the end.
use Rattle.std.proofs.Common.{◌≡◌, ◌⊎◌, inl, inr, ℕ, ◌+◌, ◌<◌, ◌≤◌, List, [], ◌∷◌, ◌++◌, length, map, get_or, drop, None, Some, Result, Ok, Err, refl, sym, ap, ◌∙◌}
use Rattle.std.specs.Prelude.{true, false, flat_map, if◌then◌else◌}
use Rattle.std.proofs.lemmas.List.{at_drop_more, at_drop_all}
use Rattle.load_files.specs.Loads.{with_file, after_visit, after_visits, go_on, ComesAnywhere}
use Rattle.load_files.specs.Tables.{Table}
use Rattle.fault_io.specs.Stored.{Stored, bytes_at}
use Rattle.load_files.specs.Paths.{is_library}
use Rattle.load_files.specs.Visits.{Visit, file, read_visits, file_visits}
use Rattle.load_files.specs.declared.kept.KeptFile.{KeptFile}
use Rattle.load_files.specs.declared.refusal.LoadRefusal.{LoadRefusal}

module _ (kept : List KeptFile) where
  -- no visit changes nothing
  pub no_visits : (files : Table) → after_visits kept [] files ≡ Ok files
  unfolding after_visits
  no_visits files = refl

  -- one visit alone
  pub one_visit : (visit : Visit) (files : Table) → after_visits kept (visit ∷ []) files ≡ after_visit kept visit files
  unfolding after_visits
  one_visit visit files = elim (after_visit kept visit files) as (λ r. go_on (after_visits kept []) r ≡ r) [ Ok after ↦ refl | Err refusal ↦ refl ]

  -- visits, and then others
  pub visits-append : (visits others : List Visit) (files : Table) → after_visits kept (visits ++ others) files ≡ go_on (after_visits kept others) (after_visits kept visits files)
  unfolding after_visits
  visits-append [] others files = refl
  visits-append (visit ∷ visits) others files =
      elim (after_visit kept visit files) as (λ r. go_on (after_visits kept (visits ++ others)) r ≡ go_on (after_visits kept others) (go_on (after_visits kept visits) r)) [
        | Ok after ↦ visits-append visits others after
        | Err refusal ↦ refl
      ]

  module _ {A : Type 0} (visits_of : A → List Visit) (items : List A) (i : ℕ) (files : Table) where
    -- the visits of the next item, and those behind it
    next_item : (item : A) → i < length items → item ≡ get_or items i item
        → after_visits kept (flat_map visits_of (drop i items)) files ≡ go_on (after_visits kept (flat_map visits_of (drop (i + 1) items))) (after_visits kept (visits_of item) files)
    next_item item within is =
        at_drop_more (λ (rest : List A). after_visits kept (flat_map visits_of rest) files) items i item within
        ∙ ap (λ (x : A). after_visits kept (visits_of x ++ flat_map visits_of (drop (i + 1) items)) files) (sym is)
        ∙ visits-append (visits_of item) (flat_map visits_of (drop (i + 1) items)) files

    -- an item is visited, and those behind it are left
    pub one_more : (item : A) (after : Table) → i < length items → item ≡ get_or items i item → after_visits kept (visits_of item) files ≡ Ok after
        → after_visits kept (flat_map visits_of (drop i items)) files ≡ after_visits kept (flat_map visits_of (drop (i + 1) items)) after
    one_more item after within is done = next_item item within is ∙ ap (go_on (after_visits kept (flat_map visits_of (drop (i + 1) items)))) done

    -- a refused item refuses all
    pub refused : (item : A) (refusal : LoadRefusal) (answer : Result Table LoadRefusal) → i < length items → item ≡ get_or items i item → answer ≡ after_visits kept (flat_map visits_of (drop i items)) files
        → ComesAnywhere refusal ⊎ (after_visits kept (visits_of item) files ≡ Err refusal) → ComesAnywhere refusal ⊎ (answer ≡ Err refusal)
    refused item refusal answer within is all (inl comes) = inl comes
    refused item refusal answer within is all (inr stops) = inr (all ∙ (next_item item within is ∙ ap (go_on (after_visits kept (flat_map visits_of (drop (i + 1) items)))) stops))

    -- no item is left
    pub no_more : length items ≤ i → after_visits kept (flat_map visits_of (drop i items)) files ≡ Ok files
    no_more all = at_drop_all (λ (rest : List A). after_visits kept (flat_map visits_of rest) files) items i all ∙ no_visits files

-- the visits of mapped items
pub flat_map-map : {A B : Type 0} (f : B → List Visit) (g : A → B) (items : List A) → flat_map f (map g items) ≡ flat_map (λ x. f (g x)) items
flat_map-map f g [] = refl
flat_map-map f g (x ∷ items) = ap (λ (more : List Visit). f (g x) ++ more) (flat_map-map f g items)

-- what is read at a path
pub no_library : (stored : Stored) (path : List ℕ) → is_library path ≡ false → file_visits stored path ≡ []
unfolding file_visits
no_library stored path other = rw other refl

pub no_file : (stored : Stored) (path : List ℕ) → bytes_at stored path ≡ None → file_visits stored path ≡ []
unfolding file_visits
no_file stored path none = elim (is_library path) as (λ b. (if b then read_visits path (bytes_at stored path) else []) ≡ []) [ true ↦ rw none refl | false ↦ refl ]

pub one_file : (stored : Stored) (path bytes : List ℕ) → is_library path ≡ true → bytes_at stored path ≡ Some bytes → file_visits stored path ≡ file path bytes ∷ []
unfolding file_visits
one_file stored path bytes library some = rw (library, some) refl

-- no visits leave the files as they are
pub gives_nothing : (kept : List KeptFile) (visits : List Visit) (files : Table) → visits ≡ [] → after_visits kept visits files ≡ Ok files
gives_nothing kept visits files none = ap (λ (vs : List Visit). after_visits kept vs files) none ∙ no_visits kept files

-- one visit of a file is that file
pub gives_file : (kept : List KeptFile) (visits : List Visit) (path bytes : List ℕ) (files : Table) → visits ≡ file path bytes ∷ [] → after_visits kept visits files ≡ with_file kept path bytes files
gives_file kept visits path bytes files one = ap (λ (vs : List Visit). after_visits kept vs files) one ∙ one_visit kept (file path bytes) files
