-- Texts by their paths.
use Rattle.std.specs.Prelude.{◌≡◌, ℕ, not, List, [], ◌∷◌, map, filter, bytes_eq, if◌then◌else◌, Option, None, Some}
use Rattle.std.specs.Cmp.Lexicographic.{slice_cmp}
use Rattle.std.specs.List.Sorted.{IsStrictlySortedBy}
use Rattle.std.specs.Ordering.{nat_cmp, match_ordering}

-- pairs of path and text
abbrev pub PathsAndTexts : Type 0
PathsAndTexts = List (List ℕ × List ℕ)

-- each path stands once, in rising order of the bytes
abbrev pub IsInOrder : PathsAndTexts → Type 0
IsInOrder table = IsStrictlySortedBy (slice_cmp nat_cmp) (map (λ e. e.0) table)

-- the text at a path
unfoldable pub text_in : List ℕ → PathsAndTexts → Option (List ℕ)
text_in path [] = None
text_in path (e ∷ more) = if bytes_eq path e.0 then Some e.1 else text_in path more

-- a path has the text that it had, or still none
abbrev pub KeepsText : List ℕ → (old new : PathsAndTexts) → Type 0
KeepsText path old new = text_in path new ≡ text_in path old

-- these texts with the one at the path, in place of the one there or where the order of the paths has it
unfoldable pub put_text : List ℕ → List ℕ → PathsAndTexts → PathsAndTexts
put_text path text [] = (path, text) ∷ []
put_text path text (e ∷ more) =
    match_ordering (slice_cmp nat_cmp path e.0) ((path, text) ∷ e ∷ more) ((path, text) ∷ more) (e ∷ put_text path text more)

-- these texts without the one at the path
unfoldable pub drop_text : List ℕ → PathsAndTexts → PathsAndTexts
drop_text path table = filter (λ e. not (bytes_eq path e.0)) table

-- these texts after the file at the path has this text, or none
abbrev pub with_text : List ℕ → Option (List ℕ) → PathsAndTexts → PathsAndTexts
with_text path None table = drop_text path table
with_text path (Some text) table = put_text path text table
