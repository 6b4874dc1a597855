-- What a reference names is a path.
use Rattle.std.proofs.Common.{◌≡◌, ℕ, zero, suc, ◌-◌, Bool, true, false, not, List, [], ◌∷◌, ◌++◌, length, take, map, Option, None, Some, eqb, inl, inr, refl, ◌∙◌, ap, subst}
use Rattle.std.specs.Prelude.{◌&&◌, ◌||◌, ◌==◌, bytes_eq, if◌then◌else◌, IfSome, option_map, option_and_then, IsTrue}
use Rattle.std.specs.List.{slice_split, onto_first, list_all, concat}
use Rattle.std.proofs.lemmas.Bool.{cases_Bool}
use Rattle.std.proofs.lemmas.List.{append-nil}
use Rattle.fault_io.specs.Paths.{slash, root, is_segment, is_path, after_front}
use Rattle.dart_uri.specs.References.{located, decoded, from_of, resolved_from, resolved}
use Rattle.dart_uri.specs.Segments.{segments_of, without_last_slash, up, after_segment, walked, path_of}
use Rattle.dart_uri.specs.declared.reference.Start.{Start}
use Rattle.dart_uri.specs.declared.reference.Start.TheVariants.{Root, Folder}

-- no slash stands in the piece
abbrev clean : List ℕ → Bool
clean piece = list_all (λ byte. not (eqb byte slash)) piece

-- the piece can be a segment
abbrev good : List ℕ → Bool
good piece = is_segment piece && clean piece

not_true : (a : Bool) → not a ≡ true → a ≡ false
not_true true e = cc
not_true false e = refl

left_true : (a b : Bool) → (a && b) ≡ true → a ≡ true
left_true true b e = refl
left_true false b e = e

right_true : (a b : Bool) → (a && b) ≡ true → b ≡ true
right_true true b e = e
right_true false b e = cc

both_true : (a b : Bool) → a ≡ true → b ≡ true → (a && b) ≡ true
both_true a b p q = rw (p, q) refl

or_right : (a b : Bool) → b ≡ true → (a || b) ≡ true
or_right true b e = refl
or_right false b e = e

all_push : {A : Type 0} (p : A → Bool) (xs : List A) (y : A) → list_all p xs ≡ true → p y ≡ true → list_all p (xs ++ y ∷ []) ≡ true
all_push p [] y h e = both_true (p y) true e refl
all_push p (x ∷ xs) y h e = both_true (p x) (list_all p (xs ++ y ∷ [])) (left_true (p x) _ h) (all_push p xs y (right_true (p x) _ h) e)

all_take : {A : Type 0} (p : A → Bool) (n : ℕ) (xs : List A) → list_all p xs ≡ true → list_all p (take n xs) ≡ true
all_take p zero xs h = refl
all_take p (suc n) [] h = refl
all_take p (suc n) (x ∷ xs) h = both_true (p x) (list_all p (take n xs)) (left_true (p x) _ h) (all_take p n xs (right_true (p x) _ h))

-- the pieces of a text have no slash
onto_clean : (x : ℕ) (parts : List (List ℕ)) → eqb x slash ≡ false → list_all clean parts ≡ true → list_all clean (onto_first x parts) ≡ true
onto_clean x [] f h = rw f refl
onto_clean x (part ∷ parts) f h = rw f h

pieces_clean : (text : List ℕ) → list_all clean (slice_split (λ byte. eqb byte slash) text) ≡ true
pieces_clean [] = refl
pieces_clean (x ∷ text) =
    elim (cases_Bool (eqb x slash)) [
      | inl t ↦ rw t (pieces_clean text)
      | inr f ↦ rw f (onto_clean x (slice_split (λ byte. eqb byte slash) text) f (pieces_clean text))
    ]

segments_clean : (text : List ℕ) → list_all clean (segments_of text) ≡ true
unfolding segments_of
segments_clean text =
    elim (length text == 0) as (λ b. list_all clean (if b then [] else slice_split (λ byte. eqb byte slash) (without_last_slash text)) ≡ true) [
      | true ↦ refl
      | false ↦ pieces_clean (without_last_slash text)
    ]

-- one segment further from good segments there are good ones
same_Some : {A : Type 0} (x y : A) → Some x ≡ Some y → x ≡ y
same_Some x y e = cc

after_good : (path : List (List ℕ)) (segment : List ℕ) (next : List (List ℕ)) → list_all good path ≡ true → clean segment ≡ true → after_segment path segment ≡ Some next → list_all good next ≡ true
after_good path segment next h c =
    elim (bytes_eq segment (46 ∷ [])) as (λ b. (if b then Some path else (if bytes_eq segment (46 ∷ 46 ∷ []) then up path else (if is_segment segment then Some (path ++ segment ∷ []) else None))) ≡ Some next → list_all good next ≡ true) [
      | true ↦ λ e. subst (λ (ss : List (List ℕ)). list_all good ss ≡ true) (same_Some path next e) h
      | false ↦ elim (bytes_eq segment (46 ∷ 46 ∷ [])) as (λ b. (if b then up path else (if is_segment segment then Some (path ++ segment ∷ []) else None)) ≡ Some next → list_all good next ≡ true) [
        | true ↦ elim (length path == 0) as (λ b. (if b then None else Some (take (length path - 1) path)) ≡ Some next → list_all good next ≡ true) [
          | true ↦ λ e. cc
          | false ↦ λ e. subst (λ (ss : List (List ℕ)). list_all good ss ≡ true) (same_Some (take (length path - 1) path) next e) (all_take good (length path - 1) path h)
        ]
        | false ↦ elim (is_segment segment) as (λ b. is_segment segment ≡ b → (if b then Some (path ++ segment ∷ []) else None) ≡ Some next → list_all good next ≡ true) [
          | true ↦ λ is e. subst (λ (ss : List (List ℕ)). list_all good ss ≡ true) (same_Some (path ++ segment ∷ []) next e) (all_push good path segment h (both_true (is_segment segment) (clean segment) is c))
          | false ↦ λ is e. cc
        ] refl
      ]
    ]

walked_good : (path pieces : List (List ℕ)) → list_all good path ≡ true → list_all clean pieces ≡ true → IfSome (walked path pieces) (λ to. list_all good to ≡ true)
unfolding walked
walked_good path [] h c = h
walked_good path (piece ∷ pieces) h c =
    elim (after_segment path piece) as (λ (o : Option (List (List ℕ))). after_segment path piece ≡ o → IfSome (option_and_then (λ next. walked next pieces) o) (λ to. list_all good to ≡ true)) [
      | None ↦ λ e. tt
      | Some next ↦ λ e. walked_good next pieces (after_good path piece next h (left_true (clean piece) _ c) e) (right_true (clean piece) _ c)
    ] refl

-- the pieces of good segments with a slash between each two are these
split_at : (xs ys : List ℕ) → clean xs ≡ true → slice_split (λ byte. eqb byte slash) (xs ++ slash ∷ ys) ≡ xs ∷ slice_split (λ byte. eqb byte slash) ys
split_at [] ys c = refl
split_at (x ∷ xs) ys c =
    let f : eqb x slash ≡ false = not_true (eqb x slash) (left_true (not (eqb x slash)) _ c) in
    rw f (ap (onto_first x) (split_at xs ys (right_true (not (eqb x slash)) _ c)))

split_whole : (xs : List ℕ) → clean xs ≡ true → slice_split (λ byte. eqb byte slash) xs ≡ xs ∷ []
split_whole [] c = refl
split_whole (x ∷ xs) c =
    let f : eqb x slash ≡ false = not_true (eqb x slash) (left_true (not (eqb x slash)) _ c) in
    rw f (ap (onto_first x) (split_whole xs (right_true (not (eqb x slash)) _ c)))

joined : (s : List ℕ) (ss : List (List ℕ)) → list_all good (s ∷ ss) ≡ true → slice_split (λ byte. eqb byte slash) (s ++ concat (map (λ segment. slash ∷ segment) ss)) ≡ s ∷ ss
joined s [] h = rw (append-nil s) (split_whole s (right_true (is_segment s) (clean s) (left_true (good s) _ h)))
joined s (t ∷ ts) h =
    split_at s (t ++ concat (map (λ segment. slash ∷ segment) ts)) (right_true (is_segment s) (clean s) (left_true (good s) _ h))
    ∙ ap (λ (parts : List (List ℕ)). s ∷ parts) (joined t ts (right_true (good s) _ h))

segments_pass : (ss : List (List ℕ)) → list_all good ss ≡ true → list_all is_segment ss ≡ true
segments_pass [] h = refl
segments_pass (s ∷ ss) h = both_true (is_segment s) (list_all is_segment ss) (left_true (is_segment s) (clean s) (left_true (good s) _ h)) (segments_pass ss (right_true (good s) _ h))

good_path : (ss : List (List ℕ)) → list_all good ss ≡ true → is_path (path_of ss) ≡ true
unfolding path_of
good_path [] h = refl
good_path (s ∷ ss) h =
    let rest = s ++ concat (map (λ segment. slash ∷ segment) ss) in
    or_right (length rest == 0) (list_all is_segment (slice_split (λ byte. eqb byte slash) rest)) (ap (list_all is_segment) (joined s ss h) ∙ segments_pass (s ∷ ss) h)

from_good : (folder : List ℕ) (start : Start) → IfSome (from_of folder start) (λ from. list_all good from ≡ true)
unfolding from_of
from_good folder Root = refl
from_good folder Folder =
    elim (after_front root folder) as (λ (o : Option (List ℕ)). IfSome (option_and_then (λ rest. walked [] (segments_of rest)) o) (λ from. list_all good from ≡ true)) [
      | None ↦ tt
      | Some rest ↦ walked_good [] (segments_of rest) refl (segments_clean rest)
    ]

resolved_from_path : (folder : List ℕ) (start : Start) (text : List ℕ) → IfSome (resolved_from folder start text) (λ path. is_path path ≡ true)
unfolding resolved_from
resolved_from_path folder start text =
    elim (from_of folder start) as (λ (o : Option (List (List ℕ))). IfSome o (λ from. list_all good from ≡ true) → IfSome (option_and_then (λ from. option_map path_of (walked from (segments_of text))) o) (λ path. is_path path ≡ true)) [
      | None ↦ λ h. tt
      | Some from ↦ λ h. elim (walked from (segments_of text)) as (λ (o : Option (List (List ℕ))). IfSome o (λ to. list_all good to ≡ true) → IfSome (option_map path_of o) (λ path. is_path path ≡ true)) [
        | None ↦ λ k. tt
        | Some to ↦ λ k. good_path to k
      ] (walked_good from (segments_of text) h (segments_clean text))
    ] (from_good folder start)

pub resolved_path : (folder reference : List ℕ) → IfSome (resolved folder reference) (λ path. IsTrue (is_path path))
resolved_path folder reference =
    elim (located reference) as (λ (o : Option (Start × List ℕ)). IfSome (option_and_then (λ found. option_and_then (resolved_from folder found.0) (decoded found.1)) o) (λ path. IsTrue (is_path path))) [
      | None ↦ tt
      | Some found ↦ elim (decoded found.1) as (λ (o : Option (List ℕ)). IfSome (option_and_then (resolved_from folder found.0) o) (λ path. IsTrue (is_path path))) [
        | None ↦ tt
        | Some text ↦ resolved_from_path folder found.0 text
      ]
    ]
