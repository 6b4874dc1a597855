-- Where no two files have one path, the paths of files are all there.
use Rattle.std.proofs.Common.{◌≡◌, ℕ, Bool, true, false, ◌&&◌, ◌||◌, not, List, [], ◌∷◌, ◌++◌, map, fold, bytes_eq, refl, sym, ap, ◌∙◌}
use Rattle.std.specs.Prelude.{if◌then◌else◌}
use Rattle.std.specs.Cmp.Lexicographic.{bytes_decides}
use Rattle.std.specs.List.{list_any}
use Rattle.std.proofs.lemmas.List.{append_assoc, append-nil}
use Rattle.std.proofs.lemmas.List.Folds.{list_any-append}
use Rattle.libraries.specs.declared.files.SourceFile.{SourceFile}
use Rattle.libraries.specs.Files.{with_file}
use Rattle.libraries.specs.Laws.{PathsAreThoseOfFiles, are_distinct}

left_false : (a b : Bool) → (a || b) ≡ false → a ≡ false
left_false true b none = none
left_false false b none = refl

right_false : (a b : Bool) → (a || b) ≡ false → b ≡ false
right_false true b none = absurd (cc (none))
right_false false b none = none

both_false : (a b : Bool) → a ≡ false → b ≡ false → (a || b) ≡ false
both_false true b none other = none
both_false false b none other = other

left_true : (a b : Bool) → (a && b) ≡ true → a ≡ true
left_true true b both = refl
left_true false b both = both

right_true : (a b : Bool) → (a && b) ≡ true → b ≡ true
right_true true b both = both
right_true false b both = absurd (cc (both))

not_true : (a : Bool) → not a ≡ true → a ≡ false
not_true true t = absurd (cc (t))
not_true false t = refl

-- texts that differ do so both ways
differ : (x y : List ℕ) → bytes_eq x y ≡ false → bytes_eq y x ≡ false
differ x y other = at (bytes_eq y x) refl
  where
    at : (b : Bool) → bytes_eq y x ≡ b → b ≡ false
    at false e = refl
    at true e =
        let one : x ≡ y = sym ((bytes_decides y x).0 e) in
        let same : bytes_eq x y ≡ true = (bytes_decides x y).1 one in
        sym same ∙ other

-- none of the files has one of these paths
abbrev no_file_at : List (List ℕ) → List SourceFile → Bool
no_file_at paths files = list_any (λ f. list_any (bytes_eq f.path) paths) files

-- one path more that none of them has
still_none : (paths : List (List ℕ)) (path : List ℕ) (files : List SourceFile) → no_file_at paths files ≡ false → list_any (bytes_eq path) (map (λ f. f.path) files) ≡ false → no_file_at (paths ++ path ∷ []) files ≡ false
still_none paths path [] none other = refl
still_none paths path (f ∷ more) none other =
    let old : list_any (bytes_eq f.path) paths ≡ false = left_false (list_any (bytes_eq f.path) paths) (no_file_at paths more) none in
    let new : bytes_eq f.path path ≡ false = differ path f.path (left_false (bytes_eq path f.path) (list_any (bytes_eq path) (map (λ f. f.path) more)) other) in
    both_false (list_any (bytes_eq f.path) (paths ++ path ∷ [])) (no_file_at (paths ++ path ∷ []) more)
    (list_any-append (bytes_eq f.path) paths (path ∷ []) ∙ both_false (list_any (bytes_eq f.path) paths) (bytes_eq f.path path || false) old (both_false (bytes_eq f.path path) false new refl))
    (still_none paths path more (right_false (list_any (bytes_eq f.path) paths) (no_file_at paths more) none) (right_false (bytes_eq path f.path) (list_any (bytes_eq path) (map (λ f. f.path) more)) other))

-- those of files behind others
behind : (paths : List (List ℕ)) (files : List SourceFile) → no_file_at paths files ≡ false → are_distinct (map (λ f. f.path) files) ≡ true → fold with_file paths files ≡ paths ++ map (λ f. f.path) files
behind paths [] none distinct = sym (append-nil paths)
behind paths (f ∷ more) none distinct =
    let old : list_any (bytes_eq f.path) paths ≡ false = left_false (list_any (bytes_eq f.path) paths) (no_file_at paths more) none in
    let rest : no_file_at paths more ≡ false = right_false (list_any (bytes_eq f.path) paths) (no_file_at paths more) none in
    let apart : list_any (bytes_eq f.path) (map (λ f. f.path) more) ≡ false =
    not_true (list_any (bytes_eq f.path) (map (λ f. f.path) more)) (left_true (not (list_any (bytes_eq f.path) (map (λ f. f.path) more))) (are_distinct (map (λ f. f.path) more)) distinct) in
    let others : are_distinct (map (λ f. f.path) more) ≡ true = right_true (not (list_any (bytes_eq f.path) (map (λ f. f.path) more))) (are_distinct (map (λ f. f.path) more)) distinct in
    ap (λ (b : Bool). fold with_file (if b then paths else paths ++ f.path ∷ []) more) old
    ∙ (behind (paths ++ f.path ∷ []) more (still_none paths f.path more rest apart) others
    ∙ append_assoc paths (f.path ∷ []) (map (λ f. f.path) more))

nothing : (files : List SourceFile) → no_file_at [] files ≡ false
nothing [] = refl
nothing (f ∷ more) = nothing more

pub paths_are_those_of_files : PathsAreThoseOfFiles
paths_are_those_of_files files distinct = behind [] files (nothing files) distinct
