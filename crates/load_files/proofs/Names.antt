-- The entries of a folder, sorted by their names, are those that the store's files lead to, in order.
use Rattle.std.proofs.Common.{◌≡◌, ◌⊎◌, inl, inr, ℕ, zero, suc, ◌+◌, Bool, true, false, not, List, [], ◌∷◌, ◌++◌, length, take, Option, None, Some, Contains, refl, sym, ap, ◌∙◌, subst, arith}
use Rattle.std.specs.Prelude.{◌&&◌, ◌||◌, ◌==◌, bytes_eq, nat_lt, option_map, if◌then◌else◌}
use Rattle.std.specs.List.{list_all, position_or_len, cons_option}
use Rattle.std.proofs.lemmas.Bool.{cases_Bool, eqb-true, ltb-true, lt-ltb, ltb-false, le-ltb}
use Rattle.fault_io.specs.Paths.{slash, root, after_front, front_of, is_under, is_path}
use Rattle.fault_io.specs.PathLaws.{after_front-append, after_front-is}
use Rattle.fault_io.specs.Stored.{Stored, are_files, are_apart, first_entry, entry_toward, entries_toward}
use Rattle.fault_io.specs.declared.traits.Entry.{Entry}
use Rattle.fault_io.specs.declared.traits.EntryKind.{EntryKind}
use Rattle.fault_io.specs.declared.traits.EntryKind.TheVariants.{Folder, File}
use Rattle.std.proofs.lemmas.List.{append_assoc}
use Rattle.std.proofs.lemmas.List.Elements.{Contains-append_cases}

pub left_true : (a b : Bool) → (a && b) ≡ true → a ≡ true
left_true true b e = refl
left_true false b e = e

pub right_true : (a b : Bool) → (a && b) ≡ true → b ≡ true
right_true true b e = e
right_true false b e = cc

-- neither holds
pub none_left : (a b : Bool) → not (a || b) ≡ true → a ≡ false
none_left true b e = cc
none_left false b e = refl

pub none_right : (a b : Bool) → not (a || b) ≡ true → b ≡ false
none_right true b e = cc
none_right false true e = cc
none_right false false e = refl

pub not_true : (a : Bool) → not a ≡ true → a ≡ false
not_true true e = cc
not_true false e = refl

-- an element of a list of which all pass
pub all_pass : {A : Type 0} (p : A → Bool) (xs : List A) (x : A) → list_all p xs ≡ true → Contains xs x → p x ≡ true
all_pass p [] x h c = absurd (omega (arith, c.1))
all_pass p (y ∷ ys) x h (zero, _, same) = ap p (sym same) ∙ left_true _ _ h
all_pass p (y ∷ ys) x h (suc k, below, same) = all_pass p ys x (right_true _ _ h) (k, omega (arith, below), same)

-- the parts of the test of files
pub head_path : (f : List ℕ × List ℕ) (files : Stored) → are_files (f ∷ files) ≡ true → is_path f.0 ≡ true
head_path f files h =
    let paths = is_path f.0 in
    let others = not (bytes_eq f.0 root) in
    let aparts = list_all (λ (other : List ℕ × List ℕ). are_apart f.0 other.0) files in
    left_true paths others (left_true (paths && others) aparts (left_true (paths && others && aparts) (are_files files) h))

pub head_other : (f : List ℕ × List ℕ) (files : Stored) → are_files (f ∷ files) ≡ true → bytes_eq f.0 root ≡ false
head_other f files h =
    let paths = is_path f.0 in
    let others = not (bytes_eq f.0 root) in
    let aparts = list_all (λ (other : List ℕ × List ℕ). are_apart f.0 other.0) files in
    not_true (bytes_eq f.0 root) (right_true paths others (left_true (paths && others) aparts (left_true (paths && others && aparts) (are_files files) h)))

head_apart : (f : List ℕ × List ℕ) (files : Stored) → are_files (f ∷ files) ≡ true → list_all (λ other. are_apart f.0 other.0) files ≡ true
head_apart f files h =
    let paths = is_path f.0 in
    let others = not (bytes_eq f.0 root) in
    let aparts = list_all (λ (other : List ℕ × List ℕ). are_apart f.0 other.0) files in
    right_true (paths && others) aparts (left_true (paths && others && aparts) (are_files files) h)

pub tail_files : (f : List ℕ × List ℕ) (files : Stored) → are_files (f ∷ files) ≡ true → are_files files ≡ true
tail_files f files h =
    let paths = is_path f.0 in
    let others = not (bytes_eq f.0 root) in
    let aparts = list_all (λ (other : List ℕ × List ℕ). are_apart f.0 other.0) files in
    right_true (paths && others && aparts) (are_files files) h

-- each file has a path, which isn't `/`
pub file_path : (files : Stored) (f : List ℕ × List ℕ) → are_files files ≡ true → Contains files f → is_path f.0 ≡ true
file_path [] f h c = absurd (omega (arith, c.1))
file_path (g ∷ files) f h (zero, _, same) = ap (λ (x : List ℕ × List ℕ). is_path x.0) (sym same) ∙ head_path g files h
file_path (g ∷ files) f h (suc k, below, same) = file_path files f (tail_files g files h) (k, omega (arith, below), same)

pub file_other : (files : Stored) (f : List ℕ × List ℕ) → are_files files ≡ true → Contains files f → bytes_eq f.0 root ≡ false
file_other [] f h c = absurd (omega (arith, c.1))
file_other (g ∷ files) f h (zero, _, same) = ap (λ (x : List ℕ × List ℕ). bytes_eq x.0 root) (sym same) ∙ head_other g files h
file_other (g ∷ files) f h (suc k, below, same) = file_other files f (tail_files g files h) (k, omega (arith, below), same)

-- of two paths that lie apart neither lies under the other
apart_below : (p q : List ℕ) → are_apart p q ≡ true → is_under p q ≡ false
apart_below p q h = none_right (bytes_eq p q) (is_under p q) (ap not (shape (bytes_eq p q) (is_under p q) (is_under q p) h))
  where
    shape : (a b c : Bool) → not (a || b || c) ≡ true → (a || b) ≡ false
    shape true b c e = cc
    shape false true c e = cc
    shape false false c e = refl

apart_above : (p q : List ℕ) → are_apart p q ≡ true → is_under q p ≡ false
apart_above p q h = shape (bytes_eq p q) (is_under p q) (is_under q p) h
  where
    shape : (a b c : Bool) → not (a || b || c) ≡ true → c ≡ false
    shape true b c e = cc
    shape false true c e = cc
    shape false false c e = not_true c e

-- two files are the same, or the first doesn't lie under the second
pub apart : (files : Stored) (g h : List ℕ × List ℕ) → are_files files ≡ true → Contains files g → Contains files h → (g ≡ h) ⊎ (is_under h.0 g.0 ≡ false)
apart [] g h sound cg ch = absurd (omega (arith, cg.1))
apart (f ∷ files) g h sound (zero, _, is_g) (zero, _, is_h) = inl (sym is_g ∙ is_h)
apart (f ∷ files) g h sound (zero, _, is_g) (suc k, below, is_h) =
    let pass = all_pass (λ (other : List ℕ × List ℕ). are_apart f.0 other.0) files h (head_apart f files sound) (k, omega (arith, below), is_h) in
    inr (ap (λ (x : List ℕ × List ℕ). is_under h.0 x.0) (sym is_g) ∙ apart_above f.0 h.0 pass)
apart (f ∷ files) g h sound (suc k, below, is_g) (zero, _, is_h) =
    let pass = all_pass (λ (other : List ℕ × List ℕ). are_apart f.0 other.0) files g (head_apart f files sound) (k, omega (arith, below), is_g) in
    inr (ap (λ (x : List ℕ × List ℕ). is_under x.0 g.0) (sym is_h) ∙ apart_below f.0 g.0 pass)
apart (f ∷ files) g h sound (suc k, below_g, is_g) (suc j, below_h, is_h) =
    apart files g h (tail_files f files sound) (k, omega (arith, below_g), is_g) (j, omega (arith, below_h), is_h)

-- a rest of a path names a file, or a folder before its first slash
pub record IsFolder (rest : List ℕ) : Type 0 where
  pub more : List ℕ
  pub kind : (first_entry rest).kind ≡ Folder
  pub whole : rest ≡ (first_entry rest).name ++ slash ∷ more

pub record IsFile (rest : List ℕ) : Type 0 where
  pub kind : (first_entry rest).kind ≡ File
  pub whole : rest ≡ (first_entry rest).name

-- one more on both sides of a test
ltb_more : (m n : ℕ) → nat_lt (1 + m) (suc n) ≡ nat_lt m n
ltb_more m n =
    elim (cases_Bool (nat_lt m n)) [
      | inl t ↦ (let below = ltb-true m n t in rw (t, lt-ltb (1 + m) (suc n) (omega (arith, below))) refl)
      | inr f ↦ (let above = ltb-false m n f in rw (f, le-ltb (1 + m) (suc n) (omega (arith, above))) refl)
    ]

-- one more taken
take_one : (n x : ℕ) (xs : List ℕ) → take (1 + n) (x ∷ xs) ≡ x ∷ take n xs
take_one n x xs = let one : 1 + n ≡ suc n = omega arith in ap (λ (k : ℕ). take k (x ∷ xs)) one

pub parted : (rest : List ℕ) → IsFile rest ⊎ IsFolder rest
parted [] = inl (record { kind = refl; whole = refl })
parted (x ∷ rest) =
    let n = position_or_len (λ byte. byte == slash) rest in
    elim (cases_Bool (x == slash)) [
      | inl t ↦ (let is = eqb-true x slash t in
          let some : nat_lt 0 (suc (length rest)) ≡ true = lt-ltb 0 (suc (length rest)) (omega arith) in
          inr (record { more = rest; kind = rw t (ap (λ (b : Bool). if b then Folder else File) some); whole = rw t (ap (λ (y : ℕ). y ∷ rest) is) }))
      | inr f ↦ elim (parted rest) [
        | inl file ↦ inl (record {
          kind = rw f (ap (λ (b : Bool). if b then Folder else File) (ltb_more n (length rest)) ∙ file.kind);
          whole = rw f (ap (λ (ys : List ℕ). x ∷ ys) file.whole ∙ sym (take_one n x rest));
        })
        | inr folder ↦ inr (record {
          more = folder.more;
          kind = rw f (ap (λ (b : Bool). if b then Folder else File) (ltb_more n (length rest)) ∙ folder.kind);
          whole = rw f (ap (λ (ys : List ℕ). x ∷ ys) folder.whole ∙ ap (λ (ys : List ℕ). ys ++ slash ∷ folder.more) (sym (take_one n x rest)));
        })
      ]
    ]

-- what leads from a folder to a file
pub record Leads (folder path : List ℕ) (entry : Entry) : Type 0 where
  pub rest : List ℕ
  pub whole : path ≡ front_of folder ++ rest
  pub first : first_entry rest ≡ entry

pub leads : (folder path : List ℕ) (entry : Entry) → entry_toward folder path ≡ Some entry → Leads folder path entry
leads folder path entry e =
    elim (after_front (front_of folder) path) as (λ (o : Option (List ℕ)). after_front (front_of folder) path ≡ o → option_map first_entry o ≡ Some entry → Leads folder path entry) [
      | None ↦ λ is no. cc
      | Some rest ↦ λ is some. record { rest = rest; whole = after_front-is (front_of folder) path rest is; first = same_Some (first_entry rest) entry some }
    ] refl e
  where
    same_Some : (x y : Entry) → Some x ≡ Some y → x ≡ y
    same_Some x y s = cc

-- a path under another one lies under it
pub under_true : (p more : List ℕ) → bytes_eq p root ≡ false → bytes_eq (p ++ slash ∷ more) root ≡ false → is_under p (p ++ slash ∷ more) ≡ true
under_true p more other below =
    let front : p ++ slash ∷ more ≡ (p ++ root) ++ more = sym (append_assoc p root more) in
    let found : after_front (p ++ root) (p ++ slash ∷ more) ≡ Some more = ap (after_front (p ++ root)) front ∙ after_front-append (p ++ root) more in
    rw (below, other, found) refl

-- an entry of a folder is led to by a file
pub from_file : (folder : List ℕ) (files : Stored) (entry : Entry) → Contains (entries_toward folder files) entry → (f : List ℕ × List ℕ) × Contains files f × (entry_toward folder f.0 ≡ Some entry)
from_file folder [] entry c = absurd (omega (arith, c.1))
from_file folder (f ∷ files) entry c =
    elim (Contains-append_cases (cons_option (entry_toward folder f.0) []) (entries_toward folder files) entry (subst (λ (es : List Entry). Contains es entry) (shown (entry_toward folder f.0)) c)) [
      | inl first ↦ (f, (zero, omega arith, refl), only (entry_toward folder f.0) first)
      | inr later ↦ (let found = from_file folder files entry later in (found.0, Contains-more f files found.0 found.1, found.2))
    ]
  where
    shown : (o : Option Entry) → cons_option o (entries_toward folder files) ≡ cons_option o [] ++ entries_toward folder files
    shown None = refl
    shown (Some e) = refl

    only : (o : Option Entry) → Contains (cons_option o []) entry → o ≡ Some entry
    only None h = absurd (omega (arith, h.1))
    only (Some e) (zero, _, same) = ap (λ (z : Entry). Some z) same
    only (Some e) (suc k, below, _) = absurd (omega arith)

    Contains-more : (x : List ℕ × List ℕ) (xs : Stored) (y : List ℕ × List ℕ) → Contains xs y → Contains (x ∷ xs) y
    Contains-more x xs y h = (suc h.0, omega (arith, h.1), h.2)

-- a file leads to an entry of the folder
pub to_entry : (folder : List ℕ) (files : Stored) (f : List ℕ × List ℕ) (entry : Entry) → Contains files f → entry_toward folder f.0 ≡ Some entry → Contains (entries_toward folder files) entry
to_entry folder [] f entry c e = absurd (omega (arith, c.1))
to_entry folder (g ∷ files) f entry (zero, _, same) e =
    let is : entry_toward folder g.0 ≡ Some entry = ap (λ (x : List ℕ × List ℕ). entry_toward folder x.0) same ∙ e in
    rw is (zero, omega arith, refl)
to_entry folder (g ∷ files) f entry (suc k, below, same) e =
    later (entry_toward folder g.0) (to_entry folder files f entry (k, omega (arith, below), same) e)
  where
    later : (o : Option Entry) → Contains (entries_toward folder files) entry → Contains (cons_option o (entries_toward folder files)) entry
    later None h = h
    later (Some x) h = (suc h.0, omega (arith, h.1), h.2)

-- entries are their names and kinds
same_entry : (e f : Entry) → e.name ≡ f.name → e.kind ≡ f.kind → e ≡ f
same_entry e f n k = λ i. record { name = n i; kind = k i }

-- the kind that leads a file's path to a file is not that of a folder on the way to another
clash : (files : Stored) (folder : List ℕ) (g h : List ℕ × List ℕ) → are_files files ≡ true → Contains files g → Contains files h → (rest_g rest_h : List ℕ) → g.0 ≡ front_of folder ++ rest_g → h.0 ≡ front_of folder ++ rest_h
    → IsFolder rest_g → IsFile rest_h → (first_entry rest_g).name ≡ (first_entry rest_h).name → g ≡ h
clash files folder g h sound cg ch rest_g rest_h whole_g whole_h split file same =
    elim (apart files g h sound cg ch) [
      | inl is ↦ is
      | inr below ↦ (
          let path : g.0 ≡ h.0 ++ slash ∷ split.more =
          whole_g ∙ ap (λ (r : List ℕ). front_of folder ++ r) (split.whole ∙ ap (λ (n : List ℕ). n ++ slash ∷ split.more) (same ∙ sym file.whole))
          ∙ sym (append_assoc (front_of folder) rest_h (slash ∷ split.more)) ∙ ap (λ (p : List ℕ). p ++ slash ∷ split.more) (sym whole_h) in
          let other : bytes_eq (h.0 ++ slash ∷ split.more) root ≡ false = ap (λ (p : List ℕ). bytes_eq p root) (sym path) ∙ file_other files g sound cg in
          let under = ap (is_under h.0) path ∙ under_true h.0 split.more (file_other files h sound ch) other in
          cc)
    ]

-- entries of one name are the same
pub one_kind : (files : Stored) (folder : List ℕ) → are_files files ≡ true → (e f : Entry) → Contains (entries_toward folder files) e → Contains (entries_toward folder files) f → e.name ≡ f.name → e ≡ f
one_kind files folder sound e f ce cf same =
    let at_g = from_file folder files e ce in
    let at_h = from_file folder files f cf in
    let lead_g = leads folder at_g.0.0 e at_g.2 in
    let lead_h = leads folder at_h.0.0 f at_h.2 in
    let names : (first_entry lead_g.rest).name ≡ (first_entry lead_h.rest).name = ap (λ (x : Entry). x.name) lead_g.first ∙ same ∙ ap (λ (x : Entry). x.name) (sym lead_h.first) in
    let both = λ (kind : EntryKind) (k_g : (first_entry lead_g.rest).kind ≡ kind) (k_h : (first_entry lead_h.rest).kind ≡ kind).
    sym lead_g.first ∙ same_entry (first_entry lead_g.rest) (first_entry lead_h.rest) names (k_g ∙ sym k_h) ∙ lead_h.first in
    let from = λ (is : at_g.0 ≡ at_h.0). same_Some e f (sym at_g.2 ∙ ap (λ (x : List ℕ × List ℕ). entry_toward folder x.0) is ∙ at_h.2) in
    elim (parted lead_g.rest) [
      | inl file_g ↦ elim (parted lead_h.rest) [
        | inl file_h ↦ both File file_g.kind file_h.kind
        | inr folder_h ↦ from (sym (clash files folder at_h.0 at_g.0 sound at_h.1 at_g.1 lead_h.rest lead_g.rest lead_h.whole lead_g.whole folder_h file_g (sym names)))
      ]
      | inr folder_g ↦ elim (parted lead_h.rest) [
        | inl file_h ↦ from (clash files folder at_g.0 at_h.0 sound at_g.1 at_h.1 lead_g.rest lead_h.rest lead_g.whole lead_h.whole folder_g file_h names)
        | inr folder_h ↦ both Folder folder_g.kind folder_h.kind
      ]
    ]
  where
    same_Some : (x y : Entry) → Some x ≡ Some y → x ≡ y
    same_Some x y s = cc
