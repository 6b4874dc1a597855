-- How the loop over segments makes their path.
use Rattle.std.proofs.Common.{◌≡◌, ℕ, suc, ◌+◌, ◌<◌, ◌≤◌, ◌==◌, true, false, arith, List, [], ◌∷◌, ◌++◌, length, take, get_or, map, refl, sym, ap, ◌∙◌}
use denote.Ref.{Bor}
use Rattle.std.specs.List.{concat, slice_split}
use Rattle.std.proofs.lemmas.List.{take_more, take_all, append_assoc, append-nil}
use Rattle.fault_io.specs.Paths.{slash, root}
use Rattle.std.specs.Str.{is_utf8}
use Rattle.percent_encoding.specs.Percent.{percent_decode}
use Rattle.dart_uri.specs.References.{decoded}
use Rattle.dart_uri.specs.Segments.{path_of, segments_of, without_last_slash, after_segment, walked}
use Rattle.std.specs.Prelude.{Option, None, Some, option_and_then}
use Rattle.std.proofs.lemmas.Bool.{eqb-true}

-- a slash and a segment behind a text
pub slash_first : (path segment : List ℕ) → (path ++ root) ++ segment ≡ path ++ (slash ∷ segment)
slash_first path segment = append_assoc path root segment

-- the path so far of texts
abbrev pub path_so_far : List (Bor (List ℕ)) → List ℕ
path_so_far segments = concat (map (λ segment. slash ∷ segment) (map (λ s. s.now) segments))

so_far-append : (xs ys : List (Bor (List ℕ))) → path_so_far (xs ++ ys) ≡ path_so_far xs ++ path_so_far ys
so_far-append [] ys = refl
so_far-append (x ∷ xs) ys = ap (λ (zs : List ℕ). (slash ∷ x.now) ++ zs) (so_far-append xs ys) ∙ sym (append_assoc (slash ∷ x.now) (path_so_far xs) (path_so_far ys))

pub one_more : (segments : List (Bor (List ℕ))) (i : ℕ) (d : Bor (List ℕ)) → i < length segments
    → path_so_far (take (i + 1) segments) ≡ path_so_far (take i segments) ++ (slash ∷ (get_or segments i d).now)
one_more segments i d within =
    ap path_so_far (take_more segments i d within) ∙ so_far-append (take i segments) (get_or segments i d ∷ [])
    ∙ ap (λ (ys : List ℕ). path_so_far (take i segments) ++ ys) (append-nil (slash ∷ (get_or segments i d).now))

pub more_path : (segments : List (Bor (List ℕ))) (i : ℕ) (d : Bor (List ℕ)) {new old segment : List ℕ} → new ≡ old ++ (slash ∷ segment) → old ≡ path_so_far (take i segments) → i < length segments → segment ≡ (get_or segments i d).now
    → new ≡ path_so_far (take (i + 1) segments)
more_path segments i d {segment = segment} added before within is =
    added ∙ (ap (λ (ys : List ℕ). ys ++ (slash ∷ segment)) before ∙ (ap (λ (ys : List ℕ). path_so_far (take i segments) ++ (slash ∷ ys)) is ∙ sym (one_more segments i d within)))

pub all_segments : (segments : List (Bor (List ℕ))) (i : ℕ) → length segments ≤ i → path_so_far (take i segments) ≡ path_so_far segments
all_segments segments i all = ap path_so_far (take_all i segments all)

pub no_segments : (segments : List (Bor (List ℕ))) → (length segments == 0) ≡ true → root ≡ path_of (map (λ s. s.now) segments)
unfolding path_of
no_segments [] none = refl
no_segments (s ∷ segments) none = let no : suc (length segments) ≡ 0 = eqb-true (suc (length segments)) 0 none in absurd (omega (arith, no))

pub some_segments : (segments : List (Bor (List ℕ))) → (length segments == 0) ≡ false → path_of (map (λ s. s.now) segments) ≡ path_so_far segments
unfolding path_of
some_segments [] some = cc
some_segments (s ∷ segments) some = refl

-- walks over the pieces of a text
pub no_text : (path : List (List ℕ)) (text : List ℕ) → (length text == 0) ≡ true → walked path (segments_of text) ≡ Some path
unfolding walked segments_of
no_text path text none = rw none refl

pub some_text : (path : List (List ℕ)) (text whole : List ℕ) → (length text == 0) ≡ false → whole ≡ without_last_slash text → walked path (segments_of text) ≡ walked path (slice_split (λ byte. byte == slash) whole)
unfolding segments_of
some_text path text whole some is = rw (some, is) refl

pub stops : (start : Option (List (List ℕ))) (path : List (List ℕ)) (text piece : List ℕ) (more : List (List ℕ)) → start ≡ walked path (slice_split (λ byte. byte == slash) text) → slice_split (λ byte. byte == slash) text ≡ piece ∷ more
    → after_segment path piece ≡ None → start ≡ None
unfolding walked
stops start path text piece more is pieces none = is ∙ ap (walked path) pieces ∙ ap (option_and_then (λ next. walked next more)) none

pub goes_on : (start : Option (List (List ℕ))) (path next : List (List ℕ)) (text piece : List ℕ) (more : List (List ℕ)) → start ≡ walked path (slice_split (λ byte. byte == slash) text) → slice_split (λ byte. byte == slash) text ≡ piece ∷ more
    → after_segment path piece ≡ Some next → start ≡ walked next more
unfolding walked
goes_on start path next text piece more is pieces there = is ∙ ap (walked path) pieces ∙ ap (option_and_then (λ next. walked next more)) there

pub no_more : (start : Option (List (List ℕ))) (path : List (List ℕ)) → start ≡ walked path [] → start ≡ Some path
unfolding walked
no_more start path is = is

-- what escapes stand for, by their bytes
pub decoded_text : (escaped text : List ℕ) {bytes : List ℕ} → is_utf8 bytes ≡ true → bytes ≡ percent_decode escaped → text ≡ bytes → Some text ≡ decoded escaped
decoded_text escaped text {bytes} good is same = let shown = ap is_utf8 (sym is) ∙ good in rw shown (ap Some (same ∙ is))

pub decoded_none : (escaped bytes : List ℕ) → is_utf8 bytes ≡ false → bytes ≡ percent_decode escaped → None ≡ decoded escaped
decoded_none escaped bytes bad is = let shown = ap is_utf8 (sym is) ∙ bad in rw shown refl
