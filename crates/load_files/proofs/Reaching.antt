-- Which files a walk meets.
use Rattle.std.proofs.Common.{◌≡◌, ◌⊎◌, inl, inr, ℕ, zero, suc, ◌+◌, Bool, true, false, not, List, [], ◌∷◌, ◌++◌, Option, None, Some, Contains, refl, sym, ap, ◌∙◌, subst, arith}
use Rattle.std.specs.Prelude.{◌&&◌, ◌||◌, bytes_eq, is_some, flat_map}
use Rattle.std.specs.List.{list_any}
use Rattle.std.proofs.lemmas.Bool.{cases_Bool}
use Rattle.std.proofs.lemmas.List.{append_assoc}
use Rattle.fault_io.specs.Paths.{root, after_front, front_of, is_under}
use Rattle.fault_io.specs.PathLaws.{after_front-append, after_front-is}
use Rattle.fault_io.specs.Stored.{Stored, are_files, bytes_at}
use Rattle.fault_io.specs.declared.traits.EntryKind.{EntryKind}
use Rattle.fault_io.specs.declared.traits.EntryKind.TheVariants.{Folder, File, Other}
use Rattle.load_files.specs.Belonging.{belongs, is_reached}
use Rattle.load_files.specs.Folders.{Entries, listing}
use Rattle.load_files.specs.Paths.{lies_in, is_excluded, child, is_library}
use Rattle.load_files.specs.Visits.{Visit, file, too_deep, read_visits, file_visits, kind_visits, entry_visits, place_visits, visits, root_visits, included_visits, package_visits, all_visits}
use Rattle.load_files.specs.declared.roots.Roots.{Roots}
use Rattle.load_files.specs.declared.walk.TheConstants.{MAX_DEPTH}
use Rattle.load_files.proofs.PathOrder.{same_from_test, is_same}
use Rattle.load_files.proofs.Names.{left_true, right_true, file_other}

-- the visit is of the file at this path
abbrev pub is_of : List ℕ → Visit → Bool
is_of q (file path bytes) = bytes_eq path q
is_of q too_deep = false

-- some visit is of the file at this path
abbrev pub visited : List ℕ → List Visit → Bool
visited q visits = list_any (is_of q) visits

-- the visit is of this file, or the last of all
abbrev pub is_met : List ℕ → Visit → Bool
is_met q (file path bytes) = bytes_eq path q
is_met q too_deep = true

abbrev pub met : List ℕ → List Visit → Bool
met q visits = list_any (is_met q) visits

pub or_left : (a b : Bool) → a ≡ true → (a || b) ≡ true
or_left true b e = refl
or_left false b e = cc

pub or_right : (a b : Bool) → b ≡ true → (a || b) ≡ true
or_right true b e = refl
or_right false b e = e

pub or_cases : (a b : Bool) → (a || b) ≡ true → (a ≡ true) ⊎ (b ≡ true)
or_cases true b e = inl refl
or_cases false b e = inr e

pub both_true : (a b : Bool) → a ≡ true → b ≡ true → (a && b) ≡ true
both_true a b p q = rw (p, q) refl

-- what a test finds among lists in a row
pub any-append : {A : Type 0} (p : A → Bool) (xs ys : List A) → list_any p (xs ++ ys) ≡ (list_any p xs || list_any p ys)
any-append p [] ys = refl
any-append p (x ∷ xs) ys = elim (p x) as (λ b. (b || list_any p (xs ++ ys)) ≡ ((b || list_any p xs) || list_any p ys)) [ true ↦ refl | false ↦ any-append p xs ys ]

pub any-flat_map : {A B : Type 0} (p : B → Bool) (f : A → List B) (xs : List A) → list_any p (flat_map f xs) ≡ list_any (λ x. list_any p (f x)) xs
any-flat_map p f [] = refl
any-flat_map p f (x ∷ xs) = any-append p (f x) (flat_map f xs) ∙ ap (λ b. list_any p (f x) || b) (any-flat_map p f xs)

-- an element that passes
pub any_has : {A : Type 0} (p : A → Bool) (xs : List A) (x : A) → Contains xs x → p x ≡ true → list_any p xs ≡ true
any_has p [] x c e = absurd (omega (arith, c.1))
any_has p (y ∷ ys) x (zero, _, same) e = or_left (p y) _ (ap p same ∙ e)
any_has p (y ∷ ys) x (suc k, below, same) e = or_right (p y) _ (any_has p ys x (k, omega (arith, below), same) e)

-- what holds where any element passes
pub any_gives : {A : Type 0} (p : A → Bool) (xs : List A) (P : Type 0) → ((x : A) → p x ≡ true → P) → list_any p xs ≡ true → P
any_gives p [] P h e = cc
any_gives p (x ∷ xs) P h e = elim (or_cases (p x) (list_any p xs) e) [ inl here ↦ h x here | inr later ↦ any_gives p xs P h later ]

-- a test that follows from another
pub any_more : {A : Type 0} (p q : A → Bool) (xs : List A) → ((x : A) → p x ≡ true → q x ≡ true) → list_any p xs ≡ true → list_any q xs ≡ true
any_more p q [] h e = e
any_more p q (x ∷ xs) h e = elim (or_cases (p x) (list_any p xs) e) [ inl here ↦ or_left (q x) _ (h x here) | inr later ↦ or_right (q x) _ (any_more p q xs h later) ]

-- no element passes where each fails
pub none_pass : {A : Type 0} (p : A → Bool) (xs : List A) → ((x : A) → Contains xs x → p x ≡ false) → list_any p xs ≡ false
none_pass p [] h = refl
none_pass p (x ∷ xs) h =
    let first = h x (zero, omega arith, refl) in
    rw first (none_pass p xs (λ y c. h y (suc c.0, omega (arith, c.1), c.2)))

pub false_from : (a : Bool) → (a ≡ true → ⊥) → a ≡ false
false_from true h = absurd (h refl)
false_from false h = refl

-- a path begins with the front of a folder in which it lies
pub record Begins (folder path : List ℕ) : Type 0 where
  pub rest : List ℕ
  pub whole : path ≡ front_of folder ++ rest

pub begins : (folder path : List ℕ) → is_under folder path ≡ true → Begins folder path
begins folder path e =
    elim (after_front (front_of folder) path) as (λ (o : Option (List ℕ)). after_front (front_of folder) path ≡ o → is_some o ≡ true → Begins folder path) [
      | None ↦ λ is no. cc
      | Some rest ↦ λ is some. record { rest = rest; whole = after_front-is (front_of folder) path rest is }
    ] refl (right_true (not (bytes_eq path root)) (is_some (after_front (front_of folder) path)) e)

-- and a path that begins so lies under the folder, unless it is `/`
pub under : (folder path rest : List ℕ) → bytes_eq path root ≡ false → path ≡ front_of folder ++ rest → is_under folder path ≡ true
under folder path rest other whole =
    let found : after_front (front_of folder) path ≡ Some rest = ap (after_front (front_of folder)) whole ∙ after_front-append (front_of folder) rest in
    rw (other, found) refl

-- the front of an entry's path begins with that of its folder
record Longer (folder name : List ℕ) : Type 0 where
  more : List ℕ
  whole : front_of (child folder name) ≡ front_of folder ++ more

longer : (folder name : List ℕ) → Longer folder name
longer folder name =
    elim (cases_Bool (bytes_eq (child folder name) root)) [
      | inl t ↦ record { more = name; whole = rw t (sym (same_from_test (child folder name) root t)) }
      | inr f ↦ record { more = name ++ root; whole = rw f (append_assoc (front_of folder) name root) }
    ]

-- what lies in an entry lies in its folder
inside : (folder name path : List ℕ) → bytes_eq path root ≡ false → lies_in (child folder name) path ≡ true → lies_in folder path ≡ true
inside folder name path other e =
    or_right (bytes_eq path folder) (is_under folder path)
    (elim (or_cases (bytes_eq path (child folder name)) (is_under (child folder name) path) e) [
      | inl same ↦ under folder path name other (same_from_test path (child folder name) same)
      | inr below ↦ (let b = begins (child folder name) path below in
          let l = longer folder name in
          under folder path (l.more ++ b.rest) other (b.whole ∙ ap (λ (ys : List ℕ). ys ++ b.rest) l.whole ∙ append_assoc (front_of folder) l.more b.rest))
    ])

-- what lies in what lies in a root lies in the root
transitive : (r q path : List ℕ) → bytes_eq path root ≡ false → lies_in r q ≡ true → lies_in q path ≡ true → lies_in r path ≡ true
transitive r q path other outer inner =
    elim (or_cases (bytes_eq q r) (is_under r q) outer) [
      | inl same ↦ subst (λ (x : List ℕ). lies_in x path ≡ true) (same_from_test q r same) inner
      | inr below ↦ (let b = begins r q below in
          let q_other : bytes_eq q root ≡ false = not_root (left_true (not (bytes_eq q root)) (is_some (after_front (front_of r) q)) below) in
          or_right (bytes_eq path r) (is_under r path)
          (elim (or_cases (bytes_eq path q) (is_under q path) inner) [
            | inl same ↦ under r path b.rest other (same_from_test path q same ∙ b.whole)
            | inr deeper ↦ (let d = begins q path deeper in
                let front : front_of q ≡ q ++ root = rw q_other refl in
                under r path (b.rest ++ (root ++ d.rest)) other
                (d.whole ∙ ap (λ (ys : List ℕ). ys ++ d.rest) (front ∙ ap (λ (ys : List ℕ). ys ++ root) b.whole)
                ∙ (append_assoc (front_of r ++ b.rest) root d.rest ∙ append_assoc (front_of r) b.rest (root ++ d.rest))))
          ]))
    ]
  where
    not_root : not (bytes_eq q root) ≡ true → bytes_eq q root ≡ false
    not_root e = shape (bytes_eq q root) e
      where
        shape : (a : Bool) → not a ≡ true → a ≡ false
        shape true e = cc
        shape false e = refl

-- what holds what isn't excluded isn't excluded
pub not_excluded : (excluded : List (List ℕ)) (q path : List ℕ) → bytes_eq path root ≡ false → lies_in q path ≡ true → is_excluded excluded path ≡ false → is_excluded excluded q ≡ false
not_excluded excluded q path other inner free =
    false_from (is_excluded excluded q) (λ e.
    let yes : is_excluded excluded path ≡ true = any_more (λ r. lies_in r q) (λ r. lies_in r path) excluded (λ r outer. transitive r q path other outer inner) e in
    cc)

module _ (stored : Stored) (sound : are_files stored ≡ true) where
  -- the bytes at a path are those of a file
  pub holds : (files : Stored) (path bytes : List ℕ) → bytes_at files path ≡ Some bytes → Contains files (path, bytes)
  holds [] path bytes e = cc
  holds (f ∷ files) path bytes e =
      elim (cases_Bool (bytes_eq f.0 path)) [
        | inl t ↦ (let found : Some f.1 ≡ Some bytes = rw t at e in
            (zero, omega arith, λ i. (same_from_test f.0 path t i, same_Some f.1 bytes found i)))
        | inr o ↦ (let found = rw o at e in
            let c = holds files path bytes found in
            (suc c.0, omega (arith, c.1), c.2))
      ]
    where
      same_Some : (x y : List ℕ) → Some x ≡ Some y → x ≡ y
      same_Some x y s = cc

  -- what is known of a file that is visited from a place
  record IsMet (excluded : List (List ℕ)) (place q : List ℕ) : Type 0 where
    library : is_library q ≡ true
    inside_it : lies_in place q ≡ true
    free : is_excluded excluded q ≡ false
    other : bytes_eq q root ≡ false

  read_met : (excluded : List (List ℕ)) (path q : List ℕ) → is_excluded excluded path ≡ false → visited q (file_visits stored path) ≡ true → IsMet excluded path q
  unfolding file_visits
  read_met excluded path q free e =
      elim (cases_Bool (is_library path)) [
        | inl t ↦ (let shown = rw t at e in
            elim (bytes_at stored path) as (λ (o : Option (List ℕ)). bytes_at stored path ≡ o → visited q (read_visits path o) ≡ true → IsMet excluded path q) [
              | None ↦ λ is no. cc
              | Some bytes ↦ λ is some.
                  let same : path ≡ q = same_from_test path q (only (bytes_eq path q) some) in
                  let other = file_other stored (path, bytes) sound (holds stored path bytes is) in
                  subst (λ (x : List ℕ). IsMet excluded path x) same (record { library = t; inside_it = or_left (bytes_eq path path) _ (is_same path path refl); free = free; other = other })
            ] refl shown)
        | inr f ↦ (let shown = rw f at e in cc)
      ]
    where
      only : (a : Bool) → (a || false) ≡ true → a ≡ true
      only true h = refl
      only false h = h

  entry_met : (excluded : List (List ℕ)) (inner : List ℕ → List Visit) (folder q : List ℕ) (entry : List ℕ × EntryKind)
      → ((path : List ℕ) → is_excluded excluded path ≡ false → visited q (inner path) ≡ true → IsMet excluded path q)
      → visited q (entry_visits stored excluded inner folder entry) ≡ true → IsMet excluded folder q
  unfolding entry_visits
  entry_met excluded inner folder q (name, kind) deeper e =
      elim (cases_Bool (is_excluded excluded (child folder name))) [
        | inl t ↦ (let shown = rw t at e in cc)
        | inr f ↦ (let shown = rw f at e in
            let at = by_kind kind (child folder name) f shown in
            record { library = at.library; inside_it = inside folder name q at.other at.inside_it; free = at.free; other = at.other })
      ]
    where
      by_kind : (k : EntryKind) (path : List ℕ) → is_excluded excluded path ≡ false → visited q (kind_visits stored inner k path) ≡ true → IsMet excluded path q
      by_kind Folder path free h = deeper path free h
      by_kind File path free h = read_met excluded path q free h
      by_kind Other path free h = read_met excluded path q free h

  visits_met : (excluded : List (List ℕ)) (q : List ℕ) (left : ℕ) (path : List ℕ) → is_excluded excluded path ≡ false → visited q (visits stored excluded left path) ≡ true → IsMet excluded path q
  unfolding visits
  visits_met excluded q zero path free e = cc
  visits_met excluded q (suc left) path free e =
      elim (listing stored path) as (λ (o : Option Entries). visited q (place_visits stored excluded (visits stored excluded left) path o) ≡ true → IsMet excluded path q) [
        | None ↦ λ h. read_met excluded path q free h
        | Some list ↦ λ h.
            any_gives (λ entry. visited q (entry_visits stored excluded (visits stored excluded left) path entry)) list (IsMet excluded path q)
            (λ entry here. entry_met excluded (visits stored excluded left) path q entry (λ deeper free_there met_there. visits_met excluded q left deeper free_there met_there) here)
            (sym (any-flat_map (is_of q) (entry_visits stored excluded (visits stored excluded left) path) list) ∙ h)
      ] e

  root_met : (excluded : List (List ℕ)) (root_path q : List ℕ) → visited q (root_visits stored excluded root_path) ≡ true → IsMet excluded root_path q
  unfolding root_visits
  root_met excluded root_path q e =
      elim (cases_Bool (is_excluded excluded root_path)) [
        | inl t ↦ (let shown = rw t at e in cc)
        | inr f ↦ (let shown = rw f at e in visits_met excluded q (MAX_DEPTH + 1) root_path f shown)
      ]

  -- what is visited belongs to the roots
  pub visited_belongs : (roots : Roots) (q : List ℕ) → visited q (all_visits stored roots) ≡ true → belongs roots q ≡ true
  visited_belongs roots q e =
      elim (or_cases (visited q (included_visits stored roots.excluded roots.included)) (visited q (package_visits stored roots.excluded roots.packages)) (sym (any-append (is_of q) (included_visits stored roots.excluded roots.included) (package_visits stored roots.excluded roots.packages)) ∙ e)) [
        | inl h ↦ any_with roots.included (λ r. root_visits stored roots.excluded r) (λ r. r) (λ r met_it. root_met roots.excluded r q met_it) (λ reached. or_left (list_any (λ r. lies_in r q) roots.included) (list_any (λ each. lies_in each.folder q) roots.packages) reached) h
        | inr h ↦ any_with roots.packages (λ each. root_visits stored roots.excluded each.folder) (λ each. each.folder) (λ each met_it. root_met roots.excluded each.folder q met_it) (λ reached. or_right (list_any (λ r. lies_in r q) roots.included) (list_any (λ each. lies_in each.folder q) roots.packages) reached) h
      ]
    where
      any_with : {A : Type 0} (items : List A) (f : A → List Visit) (folder : A → List ℕ) → ((x : A) → visited q (f x) ≡ true → IsMet roots.excluded (folder x) q)
          → (list_any (λ x. lies_in (folder x) q) items ≡ true → is_reached roots q ≡ true) → visited q (flat_map f items) ≡ true → belongs roots q ≡ true
      any_with items f folder from_it reached h =
          let found = sym (any-flat_map (is_of q) f items) ∙ h in
          let lies : list_any (λ x. lies_in (folder x) q) items ≡ true = any_more (λ x. visited q (f x)) (λ x. lies_in (folder x) q) items (λ x here. (from_it x here).inside_it) found in
          any_gives (λ x. visited q (f x)) items (belongs roots q ≡ true)
          (λ x here.
          let at = from_it x here in
          let unexcluded : not (is_excluded roots.excluded q) ≡ true = ap not at.free in
          both_true (is_library q) (is_reached roots q && not (is_excluded roots.excluded q)) at.library (both_true (is_reached roots q) (not (is_excluded roots.excluded q)) (reached lies) unexcluded))
          found
