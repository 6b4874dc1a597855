-- Every file of the roots is met, and what the visits of files come to.
use Rattle.std.proofs.Common.{◌≡◌, inl, inr, ℕ, zero, suc, ◌+◌, ◌<◌, Bool, true, false, not, cond, List, [], ◌∷◌, ◌++◌, length, Option, None, Some, Contains, refl, sym, ap, ◌∙◌, subst, arith}
use Rattle.std.specs.Prelude.{◌&&◌, ◌||◌, ◌==◌, bytes_eq, is_some, option_map, if◌then◌else◌}
use Rattle.std.specs.FinMap.Entries as tables
use Rattle.std.specs.List.{list_any, list_all, slice_split, onto_first}
use Rattle.std.specs.Ordering.{eq_by_cmp}
use Rattle.std.proofs.lemmas.Bool.{cases_Bool, eqb-true}
use Rattle.std.proofs.lemmas.List.{append_assoc}
use Rattle.fault_io.specs.Paths.{slash, root, after_front, front_of, is_under, is_path, is_segment}
use Rattle.fault_io.specs.PathLaws.{after_front-append}
use Rattle.fault_io.specs.Stored.{Stored, are_files, bytes_at, is_folder, first_entry, entry_toward, entries_toward}
use Rattle.fault_io.specs.declared.traits.Entry.{Entry}
use Rattle.fault_io.specs.declared.traits.EntryKind.{EntryKind}
use Rattle.load_files.specs.declared.packages.Package.{Package}
use Rattle.load_files.specs.Belonging.{is_reached, are_paths}
use Rattle.load_files.specs.Folders.{Entries, in_order, listing}
use Rattle.load_files.specs.Paths.{lies_in, is_excluded, child, is_library}
use Rattle.load_files.specs.Tables.{path_cmp}
use Rattle.load_files.specs.Visits.{Visit, file_visits, entry_visits, place_visits, visits, root_visits, included_visits, package_visits, all_visits}
use Rattle.load_files.specs.declared.roots.Roots.{Roots}
use Rattle.load_files.specs.declared.walk.TheConstants.{MAX_DEPTH}
use Rattle.load_files.proofs.PathOrder.{same_from_test, is_same}
use Rattle.load_files.proofs.Names.{left_true, right_true, file_path, file_other, apart, parted, under_true, to_entry, one_kind}
use Rattle.load_files.proofs.Sorting.{IsOf, found_in_order, same_name}
use Rattle.load_files.proofs.Reaching.{is_met, met, or_left, or_right, or_cases, both_true, any-append, any-flat_map, any_has, none_pass, false_from, begins, not_excluded, holds}

-- the pieces of two texts with a slash between them
onto-append : (x : ℕ) (parts others : List (List ℕ)) → 0 < length parts → onto_first x (parts ++ others) ≡ onto_first x parts ++ others
onto-append x [] others some = absurd (omega (arith, some))
onto-append x (part ∷ parts) others some = refl

split_some : (text : List ℕ) → 0 < length (slice_split (λ byte. byte == slash) text)
split_some [] = omega arith
split_some (x ∷ text) =
    elim (x == slash) as (λ b. 0 < length (cond b ([] ∷ slice_split (λ byte. byte == slash) text) (onto_first x (slice_split (λ byte. byte == slash) text)))) [
      | true ↦ omega arith
      | false ↦ onto_some (slice_split (λ byte. byte == slash) text)
    ]
  where
    onto_some : (parts : List (List ℕ)) → 0 < length (onto_first x parts)
    onto_some [] = omega arith
    onto_some (part ∷ parts) = omega arith

split_seam : (text more : List ℕ) → slice_split (λ byte. byte == slash) (text ++ slash ∷ more) ≡ slice_split (λ byte. byte == slash) text ++ slice_split (λ byte. byte == slash) more
split_seam [] more = refl
split_seam (x ∷ text) more =
    elim (x == slash) as (λ b. cond b ([] ∷ slice_split (λ byte. byte == slash) (text ++ slash ∷ more)) (onto_first x (slice_split (λ byte. byte == slash) (text ++ slash ∷ more)))
    ≡ cond b ([] ∷ slice_split (λ byte. byte == slash) text) (onto_first x (slice_split (λ byte. byte == slash) text)) ++ slice_split (λ byte. byte == slash) more) [
      | true ↦ ap (λ (parts : List (List ℕ)). [] ∷ parts) (split_seam text more)
      | false ↦ ap (onto_first x) (split_seam text more) ∙ onto-append x (slice_split (λ byte. byte == slash) text) (slice_split (λ byte. byte == slash) more) (split_some text)
    ]

all_front : {A : Type 0} (p : A → Bool) (xs ys : List A) → list_all p (xs ++ ys) ≡ true → list_all p xs ≡ true
all_front p [] ys h = refl
all_front p (x ∷ xs) ys h = both_true (p x) (list_all p xs) (left_true (p x) (list_all p (xs ++ ys)) h) (all_front p xs ys (right_true (p x) (list_all p (xs ++ ys)) h))

-- a path up to one of its slashes, if that isn't the first, is a path and not `/`
record IsFolderPath (path : List ℕ) : Type 0 where
  is : is_path path ≡ true
  other : bytes_eq path root ≡ false

front_path : (path more : List ℕ) → 0 < length path → is_path (path ++ slash ∷ more) ≡ true → IsFolderPath path
front_path [] more some e = absurd (omega (arith, some))
front_path (x ∷ path) more some e =
    let rest = right_true (x == slash) ((length (path ++ slash ∷ more) == 0) || list_all is_segment (slice_split (λ byte. byte == slash) (path ++ slash ∷ more))) e in
    let pieces : list_all is_segment (slice_split (λ byte. byte == slash) (path ++ slash ∷ more)) ≡ true = second path rest in
    let segments = all_front is_segment (slice_split (λ byte. byte == slash) path) (slice_split (λ byte. byte == slash) more) (sym (ap (list_all is_segment) (split_seam path more)) ∙ pieces) in
    record {
      is = both_true (x == slash) ((length path == 0) || list_all is_segment (slice_split (λ byte. byte == slash) path)) (left_true (x == slash) _ e) (or_right (length path == 0) _ segments);
      other = false_from (bytes_eq (x ∷ path) root) (λ same. empty path (same_from_test (x ∷ path) root same) segments);
    }
  where
    never_empty : (front : List ℕ) → length (front ++ slash ∷ more) ≡ 0 → ⊥
    never_empty [] none = absurd (omega (arith, none))
    never_empty (y ∷ front) none = absurd (omega (arith, none))

    second : (front : List ℕ) → ((length (front ++ slash ∷ more) == 0) || list_all is_segment (slice_split (λ byte. byte == slash) (front ++ slash ∷ more))) ≡ true → list_all is_segment (slice_split (λ byte. byte == slash) (front ++ slash ∷ more)) ≡ true
    second front h =
        elim (or_cases (length (front ++ slash ∷ more) == 0) (list_all is_segment (slice_split (λ byte. byte == slash) (front ++ slash ∷ more))) h) [
          | inl none ↦ absurd (never_empty front (eqb-true (length (front ++ slash ∷ more)) 0 none))
          | inr segments ↦ segments
        ]

    empty : (rest : List ℕ) → x ∷ rest ≡ root → list_all is_segment (slice_split (λ byte. byte == slash) rest) ≡ true → ⊥
    empty [] same h = cc
    empty (y ∷ rest) same h = cc

-- a front isn't empty
front_some : (folder : List ℕ) → 0 < length (front_of folder)
front_some folder =
    elim (bytes_eq folder root) as (λ b. 0 < length (if b then root else folder ++ root)) [
      | true ↦ omega arith
      | false ↦ some folder
    ]
  where
    some : (xs : List ℕ) → 0 < length (xs ++ root)
    some [] = omega arith
    some (x ∷ xs) = omega arith

child_some : (folder name : List ℕ) → 0 < length (child folder name)
child_some folder name = longer (front_of folder) name (front_some folder)
  where
    longer : (xs ys : List ℕ) → 0 < length xs → 0 < length (xs ++ ys)
    longer [] ys some = absurd (omega (arith, some))
    longer (x ∷ xs) ys some = omega arith

-- no text begins with more than itself
no_longer : (text : List ℕ) (x : ℕ) (more : List ℕ) → after_front (text ++ x ∷ more) text ≡ None
no_longer [] x more = refl
no_longer (y ∷ text) x more =
    elim (y == y) as (λ b. (if b then after_front (text ++ x ∷ more) text else None) ≡ None) [ true ↦ no_longer text x more | false ↦ refl ]

-- what is found in a table stands there
table_has : (table : Entries) (name : List ℕ) (kind : EntryKind) → tables.find path_cmp name table ≡ Some kind → Contains table (name, kind)
table_has [] name kind e = cc
table_has (entry ∷ table) name kind e =
    elim (cases_Bool (eq_by_cmp path_cmp name entry.0)) [
      | inl t ↦ (let found : Some entry.1 ≡ Some kind = rw t at e in
          (zero, omega arith, λ i. (sym (same_name name entry.0 t) i, same_Some entry.1 kind found i)))
      | inr f ↦ (let found = rw f at e in
          let c = table_has table name kind found in
          (suc c.0, omega (arith, c.1), c.2))
    ]
  where
    same_Some : (x y : EntryKind) → Some x ≡ Some y → x ≡ y
    same_Some x y s = cc

module _ (stored : Stored) (sound : are_files stored ≡ true) (excluded : List (List ℕ)) (q bytes : List ℕ) (stands : bytes_at stored q ≡ Some bytes) (library : is_library q ≡ true) (free : is_excluded excluded q ≡ false) where
  stored_has : Contains stored (q, bytes)
  stored_has = holds stored sound stored q bytes stands

  q_other : bytes_eq q root ≡ false
  q_other = file_other stored (q, bytes) sound stored_has

  -- a file is no folder
  no_folder : is_folder stored q ≡ false
  no_folder =
      let front : front_of q ≡ q ++ root = ap (λ (b : Bool). if b then root else q ++ root) q_other in
      let itself : is_under q q ≡ false =
      ap (λ (b : Bool). not b && is_some (after_front (front_of q) q)) q_other ∙ ap is_some (ap (λ (xs : List ℕ). after_front xs q) front ∙ no_longer q slash []) in
      let none : list_any (λ (f : List ℕ × List ℕ). is_under q f.0) stored ≡ false = none_pass (λ (f : List ℕ × List ℕ). is_under q f.0) stored
      (λ f c. elim (apart stored f (q, bytes) sound c stored_has) [
        | inl same ↦ ap (λ (x : List ℕ × List ℕ). is_under q x.0) same ∙ itself
        | inr not_below ↦ not_below
      ]) in
      shape (is_path q) (ap (λ b. b || list_any (λ (f : List ℕ × List ℕ). is_under q f.0) stored) q_other ∙ none)
    where
      shape : {b : Bool} (a : Bool) → b ≡ false → (a && b) ≡ false
      shape true e = e
      shape false e = refl

  -- the file itself is met
  itself_met : met q (file_visits stored q) ≡ true
  unfolding file_visits
  itself_met = rw (library, stands) (or_left (bytes_eq q q) false (is_same q q refl))

  entry_step : (inner : List ℕ → List Visit) (folder rest : List ℕ) → q ≡ front_of folder ++ rest
      → ((path : List ℕ) → is_path path ≡ true → lies_in path q ≡ true → met q (inner path) ≡ true)
      → met q (entry_visits stored excluded inner folder ((first_entry rest).name, (first_entry rest).kind)) ≡ true
  unfolding entry_visits
  entry_step inner folder rest whole deeper =
      elim (parted rest) [
        | inl is_file ↦ (
            let path : child folder (first_entry rest).name ≡ q = ap (λ (n : List ℕ). front_of folder ++ n) (sym is_file.whole) ∙ sym whole in
            rw (path, free, is_file.kind) itself_met)
        | inr is_dir ↦ (
            let c = child folder (first_entry rest).name in
            let path : q ≡ c ++ slash ∷ is_dir.more = whole ∙ ap (λ (r : List ℕ). front_of folder ++ r) is_dir.whole ∙ sym (append_assoc (front_of folder) (first_entry rest).name (slash ∷ is_dir.more)) in
            let at = front_path c is_dir.more (child_some folder (first_entry rest).name) (ap is_path (sym path) ∙ file_path stored (q, bytes) sound stored_has) in
            let below : is_under c q ≡ true = ap (is_under c) path ∙ under_true c is_dir.more at.other (ap (λ (p : List ℕ). bytes_eq p root) (sym path) ∙ q_other) in
            let lies : lies_in c q ≡ true = or_right (bytes_eq q c) (is_under c q) below in
            let unexcluded : is_excluded excluded c ≡ false = not_excluded excluded c q q_other lies free in
            rw (unexcluded, is_dir.kind) (deeper c at.is lies))
      ]

  -- a place in which the file lies leads to it, or too deep
  complete : (left : ℕ) (path : List ℕ) → is_path path ≡ true → lies_in path q ≡ true → met q (visits stored excluded left path) ≡ true
  unfolding visits listing
  complete zero path is lies = refl
  complete (suc left) path is lies =
      elim (or_cases (bytes_eq q path) (is_under path q) lies) [
        | inl same ↦ (let at : q ≡ path = same_from_test q path same in
            subst (λ (x : List ℕ). met q (place_visits stored excluded (visits stored excluded left) x (if is_folder stored x then Some (in_order (entries_toward x stored)) else None)) ≡ true) at (rw no_folder itself_met))
        | inr below ↦ (
            let b = begins path q below in
            let entry = first_entry b.rest in
            let leads : entry_toward path q ≡ Some entry = ap (option_map first_entry) (ap (after_front (front_of path)) b.whole ∙ after_front-append (front_of path) b.rest) in
            let among : Contains (entries_toward path stored) entry = to_entry path stored (q, bytes) entry stored_has leads in
            let found : tables.find path_cmp entry.name (in_order (entries_toward path stored)) ≡ Some entry.kind = kind_found path entry among in
            let there = table_has (in_order (entries_toward path stored)) entry.name entry.kind found in
            let folder : is_folder stored path ≡ true = both_true (is_path path) _ is (or_right (bytes_eq path root) _ (any_has (λ (f : List ℕ × List ℕ). is_under path f.0) stored (q, bytes) stored_has below)) in
            let step = entry_step (visits stored excluded left) path b.rest b.whole (λ deeper is_there lies_there. complete left deeper is_there lies_there) in
            rw folder
            (any-flat_map (is_met q) (entry_visits stored excluded (visits stored excluded left) path) (in_order (entries_toward path stored))
            ∙ any_has (λ e. met q (entry_visits stored excluded (visits stored excluded left) path e)) (in_order (entries_toward path stored)) (entry.name, entry.kind) there step))
      ]
    where
      kind_found : (folder : List ℕ) (entry : Entry) → Contains (entries_toward folder stored) entry → tables.find path_cmp entry.name (in_order (entries_toward folder stored)) ≡ Some entry.kind
      kind_found folder entry among = at (tables.find path_cmp entry.name (in_order (entries_toward folder stored))) (found_in_order (entries_toward folder stored) entry.name)
        where
          at : (o : Option EntryKind) → IsOf (entries_toward folder stored) entry.name o → o ≡ Some entry.kind
          at None h = absurd (h entry among refl)
          at (Some kind) h = ap (λ (e : Entry). Some e.kind) (one_kind stored folder sound (record { name = entry.name; kind = kind }) entry h among refl)

  root_complete : (path : List ℕ) → is_path path ≡ true → lies_in path q ≡ true → met q (root_visits stored excluded path) ≡ true
  unfolding root_visits
  root_complete path is lies =
      let unexcluded : is_excluded excluded path ≡ false = not_excluded excluded path q q_other lies free in
      rw unexcluded (complete (MAX_DEPTH + 1) path is lies)

  roots_complete : {A : Type 0} (folder : A → List ℕ) (items : List A) → list_all (λ x. is_path (folder x)) items ≡ true → list_any (λ x. lies_in (folder x) q) items ≡ true → list_any (λ x. met q (root_visits stored excluded (folder x))) items ≡ true
  roots_complete folder [] paths lies = cc
  roots_complete folder (x ∷ items) paths lies =
      elim (or_cases (lies_in (folder x) q) (list_any (λ y. lies_in (folder y) q) items) lies) [
        | inl here ↦ or_left (met q (root_visits stored excluded (folder x))) _ (root_complete (folder x) (left_true (is_path (folder x)) (list_all (λ y. is_path (folder y)) items) paths) here)
        | inr later ↦ or_right (met q (root_visits stored excluded (folder x))) _ (roots_complete folder items (right_true (is_path (folder x)) (list_all (λ y. is_path (folder y)) items) paths) later)
      ]

  pub reached_met : (roots : Roots) → roots.excluded ≡ excluded → are_paths roots ≡ true → is_reached roots q ≡ true → met q (all_visits stored roots) ≡ true
  reached_met roots same paths reached =
      any-append (is_met q) (included_visits stored roots.excluded roots.included) (package_visits stored roots.excluded roots.packages)
      ∙ elim (or_cases (list_any (λ r. lies_in r q) roots.included) (list_any (λ (p : Package). lies_in p.folder q) roots.packages) reached) [
        | inl h ↦ or_left (met q (included_visits stored roots.excluded roots.included)) _
            (any-flat_map (is_met q) (root_visits stored roots.excluded) roots.included
            ∙ subst (λ (ex : List (List ℕ)). list_any (λ r. met q (root_visits stored ex r)) roots.included ≡ true) (sym same) (roots_complete (λ r. r) roots.included (left_true (list_all is_path roots.included) _ paths) h))
        | inr h ↦ or_right (met q (included_visits stored roots.excluded roots.included)) _
            (any-flat_map (is_met q) (λ (p : Package). root_visits stored roots.excluded p.folder) roots.packages
            ∙ subst (λ (ex : List (List ℕ)). list_any (λ (p : Package). met q (root_visits stored ex p.folder)) roots.packages ≡ true) (sym same) (roots_complete (λ (p : Package). p.folder) roots.packages (right_true (list_all is_path roots.included) _ paths) h))
      ]
