-- What a walk meets at a path, and how the visits of items follow one another in a loop.
use Rattle.std.proofs.Common.{◌≡◌, ◌⊎◌, inl, inr, ℕ, suc, ◌+◌, ◌<◌, ◌≤◌, List, [], ◌∷◌, length, map, get_or, drop, None, Some, Result, Ok, Err, refl, sym, ap, ◌∙◌, subst, true, false}
use Rattle.std.specs.Prelude.{flat_map, ⊤, IsErrAnd}
use Rattle.fault_io.specs.Stored.{Stored}
use Rattle.fault_io.specs.declared.traits.Entry.{Entry}
use Rattle.fault_io.specs.declared.traits.EntryKind.{EntryKind}
use Rattle.fault_io.specs.declared.traits.EntryKind.TheVariants.{Folder, File, Other}
use Rattle.fault_io.specs.declared.traits.FilesRefusal.{FilesRefusal}
use Rattle.fault_io.specs.declared.traits.FilesRefusal.TheVariants as files_refusal
use Rattle.load_files.specs.Causes.{refused_by}
use Rattle.load_files.specs.Folders.{listing}
use Rattle.load_files.specs.Loads.{Loaded, after_visits, go_on, loaded, Gives, Loads, ComesAnywhere}
use Rattle.load_files.specs.Paths.{child, is_excluded}
use Rattle.load_files.specs.Tables.{Table}
use Rattle.load_files.specs.Visits.{Visit, too_deep, file_visits, entry_visits, visits, root_visits, included_visits, package_visits}
use Rattle.load_files.specs.declared.kept.KeptFile.{KeptFile}
use Rattle.load_files.specs.declared.packages.Package.{Package}
use Rattle.load_files.specs.declared.refusal.LoadRefusal.{LoadRefusal}
use Rattle.load_files.specs.declared.refusal.LoadRefusal.TheVariants.{TooDeep}
use Rattle.load_files.specs.declared.roots.Roots.{Roots}
use Rattle.load_files.specs.declared.walk.TheConstants.{MAX_DEPTH}
use Rattle.load_files.proofs.Walking.{visits-append, one_visit, one_more, refused, no_more, flat_map-map}

-- a refusal of the store may come anywhere
pub comes_anywhere : (refusal : FilesRefusal) → ComesAnywhere (refused_by refusal)
comes_anywhere files_refusal.Failed = inl refl
comes_anywhere files_refusal.Memory = inr refl

-- a refusal is handed on
pub handed_on : (result : Result ⊤ LoadRefusal) (refusal : LoadRefusal) (files : Table) (answer : Result Table LoadRefusal) → IsErrAnd result (λ e. e ≡ refusal)
    → ComesAnywhere refusal ⊎ (answer ≡ Err refusal) → Gives result files answer
handed_on (Ok done) refusal files answer is h = absurd is
handed_on (Err e) refusal files answer is h = subst (λ (x : LoadRefusal). ComesAnywhere x ⊎ (answer ≡ Err x)) (sym is) h

-- the same visits refuse alike
pub refused_alike : (kept : List KeptFile) (met others : List Visit) (files after : Table) (result : Result ⊤ LoadRefusal) (refusal : LoadRefusal) → met ≡ others
    → IsErrAnd result (λ e. e ≡ refusal) → ComesAnywhere refusal ⊎ (after_visits kept others files ≡ Err refusal) → Gives result after (after_visits kept met files)
refused_alike kept met others files after result refusal same is h =
    handed_on result refusal after (after_visits kept met files) is (subst (λ (vs : List Visit). ComesAnywhere refusal ⊎ (after_visits kept vs files ≡ Err refusal)) (sym same) h)

pub handed_on_alike : (kept : List KeptFile) (met others : List Visit) (files : Table) (refusal : LoadRefusal) → met ≡ others
    → ComesAnywhere refusal ⊎ (after_visits kept others files ≡ Err refusal) → ComesAnywhere refusal ⊎ (after_visits kept met files ≡ Err refusal)
handed_on_alike kept met others files refusal same h = subst (λ (vs : List Visit). ComesAnywhere refusal ⊎ (after_visits kept vs files ≡ Err refusal)) (sym same) h

-- the same visits leave the same files
pub done_alike : (kept : List KeptFile) (met others : List Visit) (files after : Table) → met ≡ others → after_visits kept others files ≡ Ok after → after_visits kept met files ≡ Ok after
done_alike kept met others files after same h = ap (λ (vs : List Visit). after_visits kept vs files) same ∙ h

-- a folder that is too deep refuses
pub refused_too_deep : (kept : List KeptFile) (met : List Visit) (files : Table) → met ≡ too_deep ∷ [] → after_visits kept met files ≡ Err (TooDeep (MAX_DEPTH + 1))
refused_too_deep kept met files same = ap (λ (vs : List Visit). after_visits kept vs files) same ∙ one_visit kept too_deep files

module _ {A : Type 0} (kept old : List KeptFile) (visits_of : A → List Visit) (items : List A) (i : ℕ) (start files : Table) where
  -- an item is visited, and those behind it are left
  pub next_done : (item : A) (after : Table) → i < length items → item ≡ get_or items i item → old ≡ kept
      → after_visits kept (flat_map visits_of items) start ≡ after_visits kept (flat_map visits_of (drop i items)) files → after_visits old (visits_of item) files ≡ Ok after
      → after_visits kept (flat_map visits_of items) start ≡ after_visits kept (flat_map visits_of (drop (i + 1) items)) after
  next_done item after within is same walked done =
      walked ∙ one_more kept visits_of items i files item after within is (ap (λ (k : List KeptFile). after_visits k (visits_of item) files) (sym same) ∙ done)

  -- an item is refused, and so are all
  pub next_refused : (item : A) (result : Result ⊤ LoadRefusal) (refusal : LoadRefusal) (after : Table) → i < length items → item ≡ get_or items i item → old ≡ kept
      → after_visits kept (flat_map visits_of items) start ≡ after_visits kept (flat_map visits_of (drop i items)) files → IsErrAnd result (λ e. e ≡ refusal)
      → ComesAnywhere refusal ⊎ (after_visits old (visits_of item) files ≡ Err refusal) → Gives result after (after_visits kept (flat_map visits_of items) start)
  next_refused item result refusal after within is same walked err h =
      handed_on result refusal after (after_visits kept (flat_map visits_of items) start) err
      (refused kept visits_of items i files item refusal (after_visits kept (flat_map visits_of items) start) within is walked
      (subst (λ (k : List KeptFile). ComesAnywhere refusal ⊎ (after_visits k (visits_of item) files ≡ Err refusal)) same h))

  -- all items are visited
  pub all_done : length items ≤ i → after_visits kept (flat_map visits_of items) start ≡ after_visits kept (flat_map visits_of (drop i items)) files
      → after_visits kept (flat_map visits_of items) start ≡ Ok files
  all_done all walked = walked ∙ no_more kept visits_of items i files all

module _ (stored : Stored) (excluded : List (List ℕ)) where
  -- no folder may be entered any more
  pub met_too_deep : (left : ℕ) (path : List ℕ) → left ≡ 0 → visits stored excluded left path ≡ too_deep ∷ []
  unfolding visits
  met_too_deep left path none = rw none refl

  -- a folder's entries are met
  pub met_entries : (left less : ℕ) (path : List ℕ) (es : List Entry) → left ≡ suc less → Some (map (λ entry. (entry.name, entry.kind)) es) ≡ listing stored path
      → visits stored excluded left path ≡ flat_map (λ entry. entry_visits stored excluded (visits stored excluded less) path (entry.name, entry.kind)) es
  unfolding visits
  met_entries left less path es is listed =
      rw (is, ← listed) (flat_map-map (entry_visits stored excluded (visits stored excluded less) path) (λ (entry : Entry). (entry.name, entry.kind)) es)

  -- what is no folder may be a file
  pub met_file : (left less : ℕ) (path : List ℕ) → left ≡ suc less → None ≡ listing stored path → visits stored excluded left path ≡ file_visits stored path
  unfolding visits
  met_file left less path is listed = rw (is, ← listed) refl

  module _ (inner : List ℕ → List Visit) (folder name : List ℕ) (kind : EntryKind) where
    -- an excluded entry
    pub entry_excluded : is_excluded excluded (child folder name) ≡ true → entry_visits stored excluded inner folder (name, kind) ≡ []
    unfolding entry_visits
    entry_excluded out = rw out refl

    -- an entry that is a folder
    pub entry_folder : is_excluded excluded (child folder name) ≡ false → kind ≡ Folder → entry_visits stored excluded inner folder (name, kind) ≡ inner (child folder name)
    unfolding entry_visits
    entry_folder free is = rw (free, is) refl

    -- an entry of another kind
    pub entry_file : is_excluded excluded (child folder name) ≡ false → (kind ≡ File) ⊎ (kind ≡ Other) → entry_visits stored excluded inner folder (name, kind) ≡ file_visits stored (child folder name)
    unfolding entry_visits
    entry_file free (inl is) = rw (free, is) refl
    entry_file free (inr is) = rw (free, is) refl

  -- an excluded root
  pub root_excluded : (root : List ℕ) → is_excluded excluded root ≡ true → root_visits stored excluded root ≡ []
  unfolding root_visits
  root_excluded root out = rw out refl

  -- a root that is walked
  pub root_walked : (root : List ℕ) → is_excluded excluded root ≡ false → root_visits stored excluded root ≡ visits stored excluded (MAX_DEPTH + 1) root
  unfolding root_visits
  root_walked root free = rw free refl

-- a refusal of the whole is handed on
handed_up : (result answer : Result Table LoadRefusal) (refusal : LoadRefusal) → IsErrAnd result (λ e. e ≡ refusal) → ComesAnywhere refusal ⊎ (answer ≡ Err refusal) → Loads result answer
handed_up (Ok files) answer refusal is h = absurd is
handed_up (Err e) answer refusal is h = subst (λ (x : LoadRefusal). ComesAnywhere x ⊎ (answer ≡ Err x)) (sym is) h

module _ (stored : Stored) (roots : Roots) (kept : List KeptFile) (loading : Loaded) (excluded included : List (List ℕ)) (fresh : loading ≡ record { kept = kept; files = [] }) (leaves : excluded ≡ roots.excluded) (takes : included ≡ roots.included) where
  -- nothing is read before the included paths
  started : after_visits kept (included_visits stored roots.excluded roots.included) [] ≡ after_visits loading.kept (included_visits stored excluded included) loading.files
  started =
      sym (ap (λ (l : Loaded). after_visits l.kept (included_visits stored excluded included) l.files) fresh
      ∙ (ap (λ (es : List (List ℕ)). after_visits kept (included_visits stored es included) []) leaves
      ∙ ap (λ (is : List (List ℕ)). after_visits kept (included_visits stored roots.excluded is) []) takes))

  -- the included paths come first
  loaded_first : (answer : Result Table LoadRefusal) → after_visits loading.kept (included_visits stored excluded included) loading.files ≡ answer
      → loaded stored roots kept ≡ go_on (after_visits kept (package_visits stored roots.excluded roots.packages)) answer
  loaded_first answer is =
      visits-append kept (included_visits stored roots.excluded roots.included) (package_visits stored roots.excluded roots.packages) []
      ∙ ap (go_on (after_visits kept (package_visits stored roots.excluded roots.packages))) (started ∙ is)

  -- an included path is refused
  pub included_refused : (result : Result Table LoadRefusal) (refusal : LoadRefusal) → IsErrAnd result (λ e. e ≡ refusal)
      → ComesAnywhere refusal ⊎ (after_visits loading.kept (included_visits stored excluded included) loading.files ≡ Err refusal) → Loads result (loaded stored roots kept)
  included_refused result refusal err (inl comes) = handed_up result (loaded stored roots kept) refusal err (inl comes)
  included_refused result refusal err (inr stops) = handed_up result (loaded stored roots kept) refusal err (inr (loaded_first (Err refusal) stops))

  module _ (packages : List Package) (next : Loaded) (same : next.kept ≡ loading.kept) (listed : packages ≡ roots.packages)
      (done : after_visits loading.kept (included_visits stored excluded included) loading.files ≡ Ok next.files) where
    -- the packages come behind
    pub loaded_next : loaded stored roots kept ≡ after_visits next.kept (package_visits stored excluded packages) next.files
    loaded_next =
        loaded_first (Ok next.files) done
        ∙ sym (ap (λ (k : List KeptFile). after_visits k (package_visits stored excluded packages) next.files) (same ∙ ap (λ (l : Loaded). l.kept) fresh)
        ∙ (ap (λ (es : List (List ℕ)). after_visits kept (package_visits stored es packages) next.files) leaves
        ∙ ap (λ (ps : List Package). after_visits kept (package_visits stored roots.excluded ps) next.files) listed))

    -- the folder of a package is refused
    pub packages_refused : (result : Result Table LoadRefusal) (refusal : LoadRefusal) → IsErrAnd result (λ e. e ≡ refusal)
        → ComesAnywhere refusal ⊎ (after_visits next.kept (package_visits stored excluded packages) next.files ≡ Err refusal) → Loads result (loaded stored roots kept)
    packages_refused result refusal err (inl comes) = handed_up result (loaded stored roots kept) refusal err (inl comes)
    packages_refused result refusal err (inr stops) = handed_up result (loaded stored roots kept) refusal err (inr (loaded_next ∙ stops))
