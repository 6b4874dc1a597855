-- What a path has among all files.
use Rattle.std.proofs.Common.{◌≡◌, ℕ, Bool, true, false, not, ◌&&◌, List, [], ◌∷◌, ◌++◌, map, Option, Some, None, refl, sym, ap, subst, ◌∙◌}
use Rattle.std.specs.Prelude.{bytes_eq, find, is_some, option_map, cond}
use Rattle.std.specs.List.{filter}
use Rattle.std.specs.Option.{option_or}
use Rattle.std.specs.Ordering.{nat_cmp}
use Rattle.std.specs.Cmp.Lexicographic.{slice_cmp}
use Rattle.std.proofs.lemmas.Map.Text.{is_eq-slice_cmp}
use Rattle.std.proofs.lemmas.Slice.Eq.{bytes_eq-Decides}
use Rattle.load_files.specs.Tables.{Table, contents_at}
use Rattle.load_files.specs.declared.contents.FileContents.{FileContents}
use Rattle.load_files.specs.declared.contents.FileContents.TheVariants.{Text}
use Rattle.overlays.specs.Tables.{PathsAndTexts, text_in}
use Rattle.protocol_rules.specs.Files.{contents_among, current, files_of, given_file, in_front, is_new, now_in, overlaid}
use Rattle.protocol_rules.specs.State.{State}

abbrev File : Type 0
File = List ℕ × FileContents

-- the same paths have the same bytes
same_path : (p q : List ℕ) → bytes_eq p q ≡ true → p ≡ q
same_path p q is = (bytes_eq-Decides p q).0 is

-- among two tables
among_both : (path : List ℕ) (xs ys : Table) → contents_among path (xs ++ ys) ≡ option_or (contents_among path xs) (contents_among path ys)
among_both path [] ys = refl
among_both path (x ∷ xs) ys =
    elim (bytes_eq path x.0) as (λ b. option_map (λ (f : File). f.1) (cond b (Some x) (find (λ (f : File). bytes_eq path f.0) (xs ++ ys))) ≡ option_or (option_map (λ (f : File). f.1) (cond b (Some x) (find (λ (f : File). bytes_eq path f.0) xs))) (contents_among path ys)) [
      | true ↦ refl
      | false ↦ among_both path xs ys
    ]

-- among the files of the store it is what is there now
among_stored : (path : List ℕ) (overlays : PathsAndTexts) (table : Table) → contents_among path (map (overlaid overlays) table) ≡ option_map (now_in (text_in path overlays)) (contents_at path table)
unfolding contents_at
among_stored path overlays [] = refl
among_stored path overlays (x ∷ xs) =
    rw (is_eq-slice_cmp path x.0)
    (elim (bytes_eq path x.0) as (λ b. bytes_eq path x.0 ≡ b → option_map (λ (f : File). f.1) (cond b (Some (overlaid overlays x)) (find (λ (f : File). bytes_eq path f.0) (map (overlaid overlays) xs))) ≡ option_map (now_in (text_in path overlays)) (cond b (Some x.1) (contents_at path xs))) [
      | true ↦ λ is. rw (same_path path x.0 is) refl
      | false ↦ λ is. among_stored path overlays xs
    ] refl)

-- a text is new where the store hadn't the path
new_where_none : (path : List ℕ) (snapshot : Table) (e : List ℕ × List ℕ) → contents_at path snapshot ≡ None → bytes_eq path e.0 ≡ true → is_new snapshot e ≡ true
new_where_none path snapshot e none is = rw (← same_path path e.0 is, none) refl

-- among the others that the client has given it is the text
among_given : (path : List ℕ) (snapshot : Table) (overlays : PathsAndTexts) → contents_at path snapshot ≡ None → contents_among path (map given_file (filter (is_new snapshot) overlays)) ≡ option_map (λ text. Text text) (text_in path overlays)
unfolding text_in
among_given path snapshot [] none = refl
among_given path snapshot (e ∷ more) none =
    elim (bytes_eq path e.0) as (λ b. bytes_eq path e.0 ≡ b → contents_among path (map given_file (cond (is_new snapshot e) (e ∷ filter (is_new snapshot) more) (filter (is_new snapshot) more))) ≡ option_map (λ (text : List ℕ). Text text) (cond b (Some e.1) (text_in path more))) [
      | true ↦ λ is. rw (new_where_none path snapshot e none is, is) refl
      | false ↦ λ other. elim (is_new snapshot e) as (λ n. contents_among path (map given_file (cond n (e ∷ filter (is_new snapshot) more) (filter (is_new snapshot) more))) ≡ option_map (λ (text : List ℕ). Text text) (text_in path more)) [
        | true ↦ rw other (among_given path snapshot more none)
        | false ↦ among_given path snapshot more none
      ]
    ] refl

-- together it is what the path currently has
among_by : (text : Option (List ℕ)) (stored : Option FileContents) (given : Option FileContents) → (stored ≡ None → given ≡ option_map (λ text. Text text) text) → option_or (option_map (now_in text) stored) given ≡ in_front text stored
among_by None None given is = is refl
among_by (Some text) None given is = is refl
among_by None (Some contents) given is = refl
among_by (Some text) (Some contents) given is = refl

pub among_files : (s : State) (path : List ℕ) → contents_among path (files_of s) ≡ current s path
among_files s path =
    among_both path (map (overlaid s.overlays) s.snapshot) (map given_file (filter (is_new s.snapshot) s.overlays))
    ∙ (λ i. option_or (among_stored path s.overlays s.snapshot i) (contents_among path (map given_file (filter (is_new s.snapshot) s.overlays))))
    ∙ among_by (text_in path s.overlays) (contents_at path s.snapshot) (contents_among path (map given_file (filter (is_new s.snapshot) s.overlays))) (among_given path s.snapshot s.overlays)
