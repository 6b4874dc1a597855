-- What a snapshot has at each path.
use Rattle.std.proofs.Common.{◌≡◌, ◌⊎◌, inl, inr, ℕ, zero, suc, ◌+◌, Bool, true, false, not, List, [], ◌∷◌, ◌++◌, Option, None, Some, Result, Ok, Err, refl, sym, ap, ◌∙◌, subst}
use Rattle.std.specs.Prelude.{◌&&◌, ◌||◌, bytes_eq, is_some, flat_map, option_map, nat_lt, if◌then◌else◌, IfOk, IsTrue, ⊤}
use Rattle.std.specs.FinMap.Entries as tables
use Rattle.std.specs.List.{AllByRecursion}
use Rattle.std.specs.Ordering.{eq_by_cmp}
use Rattle.std.proofs.lemmas.Bool.{cases_Bool}
use Rattle.std.proofs.lemmas.Cmp.{nat_list_cmp_total}
use Rattle.std.proofs.lemmas.Map.Text.{is_eq-slice_cmp}
use Rattle.fault_io.specs.Stored.{Stored, are_files, bytes_at}
use Rattle.fault_io.specs.declared.traits.EntryKind.{EntryKind}
use Rattle.fault_io.specs.declared.traits.EntryKind.TheVariants.{Folder, File, Other}
use Rattle.load_files.specs.declared.packages.Package.{Package}
use Rattle.load_files.specs.Belonging.{belongs, is_reached, are_paths, HasTheFiles}
use Rattle.load_files.specs.Contents.{contents_of}
use Rattle.load_files.specs.Counts.{path_count, byte_count}
use Rattle.load_files.specs.Folders.{Entries, listing}
use Rattle.load_files.specs.Loads.{limited, with_file, go_on, after_visits, loaded}
use Rattle.load_files.specs.Paths.{child, is_excluded, is_library}
use Rattle.load_files.specs.Tables.{Table, path_cmp, contents_at, with_contents}
use Rattle.load_files.specs.Visits.{Visit, file, too_deep, read_visits, file_visits, kind_visits, entry_visits, place_visits, visits, root_visits, included_visits, package_visits, all_visits}
use Rattle.load_files.specs.declared.contents.FileContents.{FileContents}
use Rattle.load_files.specs.declared.kept.KeptFile.{KeptFile}
use Rattle.load_files.specs.declared.loading.TheConstants.{MAX_PATHS, MAX_BYTES}
use Rattle.load_files.specs.declared.refusal.LoadRefusal.{LoadRefusal}
use Rattle.load_files.specs.declared.refusal.LoadRefusal.TheVariants.{TooManyFiles, TooMuch}
use Rattle.load_files.specs.declared.roots.Roots.{Roots}
use Rattle.load_files.specs.declared.walk.TheConstants.{MAX_DEPTH}
use Rattle.load_files.proofs.PathOrder.{differs, is_same, by_sameness}
use Rattle.load_files.proofs.Names.{left_true, right_true}
use Rattle.load_files.proofs.Reaching.{visited, met, visited_belongs}
use Rattle.load_files.proofs.Completeness.{reached_met}

module _ (stored : Stored) where
  -- what the store has at a path
  abbrev expected : List ℕ → Option FileContents
  expected q = option_map contents_of (bytes_at stored q)

  -- a visit of a file has the store's bytes
  abbrev IsTold : Visit → Type 0
  IsTold (file path bytes) = bytes_at stored path ≡ Some bytes
  IsTold too_deep = ⊤

  told_append : (xs ys : List Visit) → AllByRecursion IsTold xs → AllByRecursion IsTold ys → AllByRecursion IsTold (xs ++ ys)
  told_append [] ys a b = b
  told_append (x ∷ xs) ys a b = (a.0, told_append xs ys a.1 b)

  told_all : {A : Type 0} (f : A → List Visit) (xs : List A) → ((x : A) → AllByRecursion IsTold (f x)) → AllByRecursion IsTold (flat_map f xs)
  told_all f [] h = tt
  told_all f (x ∷ xs) h = told_append (f x) (flat_map f xs) (h x) (told_all f xs h)

  told_file : (path : List ℕ) → AllByRecursion IsTold (file_visits stored path)
  unfolding file_visits
  told_file path =
      elim (is_library path) as (λ b. AllByRecursion IsTold (if b then read_visits path (bytes_at stored path) else [])) [
        | true ↦ elim (bytes_at stored path) as (λ (o : Option (List ℕ)). bytes_at stored path ≡ o → AllByRecursion IsTold (read_visits path o)) [ None ↦ (λ e. tt) | Some bytes ↦ (λ e. (e, tt)) ] refl
        | false ↦ tt
      ]

  told_entry : (excluded : List (List ℕ)) (inner : List ℕ → List Visit) (folder : List ℕ) (entry : List ℕ × EntryKind) → ((path : List ℕ) → AllByRecursion IsTold (inner path)) → AllByRecursion IsTold (entry_visits stored excluded inner folder entry)
  unfolding entry_visits
  told_entry excluded inner folder (name, kind) deeper =
      elim (is_excluded excluded (child folder name)) as (λ b. AllByRecursion IsTold (if b then [] else kind_visits stored inner kind (child folder name))) [
        | true ↦ tt
        | false ↦ by_kind kind (child folder name)
      ]
    where
      by_kind : (k : EntryKind) (path : List ℕ) → AllByRecursion IsTold (kind_visits stored inner k path)
      by_kind Folder path = deeper path
      by_kind File path = told_file path
      by_kind Other path = told_file path

  told_place : (excluded : List (List ℕ)) (left : ℕ) (path : List ℕ) → AllByRecursion IsTold (visits stored excluded left path)
  unfolding visits
  told_place excluded zero path = (tt, tt)
  told_place excluded (suc left) path =
      elim (listing stored path) as (λ (o : Option Entries). AllByRecursion IsTold (place_visits stored excluded (visits stored excluded left) path o)) [
        | None ↦ told_file path
        | Some list ↦ told_all (entry_visits stored excluded (visits stored excluded left) path) list (λ entry. told_entry excluded (visits stored excluded left) path entry (λ deeper. told_place excluded left deeper))
      ]

  told_root : (excluded : List (List ℕ)) (path : List ℕ) → AllByRecursion IsTold (root_visits stored excluded path)
  unfolding root_visits
  told_root excluded path =
      elim (is_excluded excluded path) as (λ b. AllByRecursion IsTold (if b then [] else visits stored excluded (MAX_DEPTH + 1) path)) [
        | true ↦ tt
        | false ↦ told_place excluded (MAX_DEPTH + 1) path
      ]

  told_roots : (roots : Roots) → AllByRecursion IsTold (all_visits stored roots)
  told_roots roots =
      told_append (included_visits stored roots.excluded roots.included) (package_visits stored roots.excluded roots.packages)
      (told_all (root_visits stored roots.excluded) roots.included (λ r. told_root roots.excluded r))
      (told_all (λ (p : Package). root_visits stored roots.excluded p.folder) roots.packages (λ p. told_root roots.excluded p.folder))

  -- the files have nothing else at a path than the store
  abbrev Agrees : List ℕ → Table → Type 0
  Agrees q table = (contents_at q table ≡ None) ⊎ (contents_at q table ≡ expected q)

  -- what is found after a file is put
  put_there : (path : List ℕ) (contents : FileContents) (table : Table) → contents_at path (with_contents path contents table) ≡ Some contents
  unfolding contents_at with_contents
  put_there path contents table =
      let same : eq_by_cmp path_cmp path path ≡ true = is_eq-slice_cmp path path ∙ is_same path path refl in
      tables.find-put path_cmp nat_list_cmp_total path path contents table ∙ rw same refl

  put_other : (q path : List ℕ) (contents : FileContents) (table : Table) → bytes_eq q path ≡ false → contents_at q (with_contents path contents table) ≡ contents_at q table
  unfolding contents_at with_contents
  put_other q path contents table other =
      let not_same : eq_by_cmp path_cmp q path ≡ false = is_eq-slice_cmp q path ∙ other in
      tables.find-put path_cmp nat_list_cmp_total q path contents table ∙ rw not_same refl

  same_Ok : {A : Type 0} (x y : A) → ◌≡◌ {A = Result A LoadRefusal} (Ok x) (Ok y) → x ≡ y
  same_Ok x y e = cc

  -- files within the limits are left as they are
  within : (kept : List KeptFile) (files after : Table) → limited kept files ≡ Ok after → files ≡ after
  within kept files after =
      elim (nat_lt MAX_PATHS (path_count kept files)) as (λ b. (if b then Err (TooManyFiles (path_count kept files)) else (if nat_lt MAX_BYTES (byte_count kept files) then Err (TooMuch (byte_count kept files)) else Ok files)) ≡ Ok after → files ≡ after) [
        | true ↦ λ e. cc
        | false ↦ elim (nat_lt MAX_BYTES (byte_count kept files)) as (λ b. (if b then Err (TooMuch (byte_count kept files)) else Ok files) ≡ Ok after → files ≡ after) [
          | true ↦ λ e. cc
          | false ↦ λ e. same_Ok files after e
        ]
      ]

  -- after a visit of a file its path has what the store has, and every other path what it had
  one_file : (kept : List KeptFile) (path bytes : List ℕ) (table after : Table) (q : List ℕ) → bytes_at stored path ≡ Some bytes → with_file kept path bytes table ≡ Ok after → Agrees q table
      → contents_at q after ≡ (if bytes_eq path q then expected q else contents_at q table)
  unfolding with_file
  one_file kept path bytes table after q told e agrees =
      elim (contents_at path table) as (λ (o : Option FileContents). contents_at path table ≡ o → (if is_some o then Ok table else limited kept (with_contents path (contents_of bytes) table)) ≡ Ok after → contents_at q after ≡ (if bytes_eq path q then expected q else contents_at q table)) [
        | Some old ↦ λ is some.
            let done : table ≡ after = same_Ok table after some in
            subst (λ (t : Table). contents_at q t ≡ (if bytes_eq path q then expected q else contents_at q table)) done
            (by_sameness path q (λ b. contents_at q table ≡ (if b then expected q else contents_at q table))
            (λ same. elim agrees [
              | inl none ↦ (let clash = ap (λ (p : List ℕ). contents_at p table) (sym same) ∙ is in cc)
              | inr has ↦ has
            ])
            (λ other. refl))
        | None ↦ λ is put.
            let done : with_contents path (contents_of bytes) table ≡ after = within kept (with_contents path (contents_of bytes) table) after put in
            subst (λ (t : Table). contents_at q t ≡ (if bytes_eq path q then expected q else contents_at q table)) done
            (by_sameness path q (λ b. contents_at q (with_contents path (contents_of bytes) table) ≡ (if b then expected q else contents_at q table))
            (λ same. subst (λ (p : List ℕ). contents_at p (with_contents path (contents_of bytes) table) ≡ expected p) same (put_there path (contents_of bytes) table ∙ sym (ap (option_map contents_of) told)))
            (λ other. put_other q path (contents_of bytes) table (turn_round path q other)))
      ] refl e
    where
      turn_round : (p r : List ℕ) → bytes_eq p r ≡ false → bytes_eq r p ≡ false
      turn_round p r other = differs r p (λ same. let yes = is_same p r (sym same) in cc)

  still_agrees : (q : List ℕ) (b : Bool) (table after : Table) → Agrees q table → contents_at q after ≡ (if b then expected q else contents_at q table) → Agrees q after
  still_agrees q true table after agrees e = inr e
  still_agrees q false table after (inl none) e = inl (e ∙ none)
  still_agrees q false table after (inr has) e = inr (e ∙ has)

  -- after visits each path that was visited has what the store has, and every other what it had
  all_files : (kept : List KeptFile) (vs : List Visit) (table after : Table) (q : List ℕ) → AllByRecursion IsTold vs → after_visits kept vs table ≡ Ok after → Agrees q table
      → contents_at q after ≡ (if visited q vs then expected q else contents_at q table)
  unfolding after_visits
  all_files kept [] table after q told e agrees = ap (contents_at q) (sym (same_Ok table after e))
  all_files kept (too_deep ∷ vs) table after q told e agrees = cc
  all_files kept (file path bytes ∷ vs) table after q told e agrees =
      elim (with_file kept path bytes table) as (λ (r : Result Table LoadRefusal). with_file kept path bytes table ≡ r → go_on (after_visits kept vs) r ≡ Ok after → contents_at q after ≡ (if bytes_eq path q || visited q vs then expected q else contents_at q table)) [
        | Err refusal ↦ λ is no. cc
        | Ok next ↦ λ is more.
            let first = one_file kept path bytes table next q told.0 is agrees in
            let rest = all_files kept vs next after q told.1 more (still_agrees q (bytes_eq path q) table next agrees first) in
            joined (bytes_eq path q) (visited q vs) (contents_at q next) (contents_at q table) (contents_at q after) first rest
      ] refl e
    where
      joined : (a b : Bool) (next before end : Option FileContents) → next ≡ (if a then expected q else before) → end ≡ (if b then expected q else next) → end ≡ (if a || b then expected q else before)
      joined true true next before end f r = r
      joined true false next before end f r = r ∙ f
      joined false true next before end f r = r
      joined false false next before end f r = r ∙ f

  -- visits that come to files meet no folder too deep
  met_visited : (kept : List KeptFile) (vs : List Visit) (table after : Table) (q : List ℕ) → after_visits kept vs table ≡ Ok after → met q vs ≡ visited q vs
  unfolding after_visits
  met_visited kept [] table after q e = refl
  met_visited kept (too_deep ∷ vs) table after q e = cc
  met_visited kept (file path bytes ∷ vs) table after q e =
      elim (with_file kept path bytes table) as (λ (r : Result Table LoadRefusal). go_on (after_visits kept vs) r ≡ Ok after → (bytes_eq path q || met q vs) ≡ (bytes_eq path q || visited q vs)) [
        | Err refusal ↦ λ no. cc
        | Ok next ↦ λ more. ap (λ b. bytes_eq path q || b) (met_visited kept vs next after q more)
      ] e

  nothing : (p : List ℕ) → contents_at p [] ≡ None
  unfolding contents_at
  nothing p = refl

  -- at each path there is what the store has, where it belongs to the roots
  at_path : (roots : Roots) (kept : List KeptFile) (table : Table) (q : List ℕ) → are_files stored ≡ true → are_paths roots ≡ true → loaded stored roots kept ≡ Ok table
      → contents_at q table ≡ (if belongs roots q then expected q else None)
  at_path roots kept table q sound paths e =
      all_files kept (all_visits stored roots) [] table q (told_roots roots) e (inl (nothing q)) ∙ ap (λ (o : Option FileContents). if visited q (all_visits stored roots) then expected q else o) (nothing q)
      ∙ elim (cases_Bool (visited q (all_visits stored roots))) [
        | inl t ↦ (let b = visited_belongs stored sound roots q t in rw (t, b) refl)
        | inr f ↦ rw f (elim (belongs roots q) as (λ b. belongs roots q ≡ b → None ≡ (if b then expected q else None)) [
          | false ↦ λ b. refl
          | true ↦ λ b. elim (bytes_at stored q) as (λ (o : Option (List ℕ)). bytes_at stored q ≡ o → None ≡ option_map contents_of o) [
            | None ↦ λ is. refl
            | Some bytes ↦ λ is.
                let library = left_true (is_library q) (is_reached roots q && not (is_excluded roots.excluded q)) b in
                let rest = right_true (is_library q) (is_reached roots q && not (is_excluded roots.excluded q)) b in
                let reached = left_true (is_reached roots q) (not (is_excluded roots.excluded q)) rest in
                let free = unexcluded (is_excluded roots.excluded q) (right_true (is_reached roots q) (not (is_excluded roots.excluded q)) rest) in
                let m = reached_met stored sound roots.excluded q bytes is library free roots refl paths reached in
                let clash = sym (met_visited kept (all_visits stored roots) [] table q e) ∙ m in
                cc
          ] refl
        ] refl)
      ]
    where
      unexcluded : (a : Bool) → not a ≡ true → a ≡ false
      unexcluded true h = cc
      unexcluded false h = refl

pub has_the_files : (stored : Stored) (roots : Roots) (kept : List KeptFile) → IsTrue (are_files stored) → IsTrue (are_paths roots) → IfOk (loaded stored roots kept) (HasTheFiles stored roots)
has_the_files stored roots kept sound paths =
    elim (loaded stored roots kept) as (λ (r : Result Table LoadRefusal). loaded stored roots kept ≡ r → IfOk r (HasTheFiles stored roots)) [
      | Err refusal ↦ λ e. tt
      | Ok table ↦ λ e. record { at_each = λ q. at_path stored roots kept table q sound paths e }
    ] refl
