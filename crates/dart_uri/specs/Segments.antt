-- Paths by their segments, and walks from one path to another.
use Rattle.std.specs.Prelude.{ℕ, ◌==◌, ◌+◌, ◌-◌, List, [], ◌∷◌, ◌++◌, length, take, map, bytes_eq, nat_eq, if◌then◌else◌, Option, None, Some, option_and_then}
use Rattle.std.specs.List.{slice_split, concat, ends_with}
use Rattle.fault_io.specs.Paths.{slash, root, is_segment}

-- a text without the slash that it ends in
abbrev pub without_last_slash : List ℕ → List ℕ
without_last_slash text = if ends_with nat_eq text root then take (length text - 1) text else text

-- the pieces between the slashes of what is left, if anything is
abbrev pub pieces_after : Option (List ℕ) → List (List ℕ)
pieces_after None = []
pieces_after (Some rest) = slice_split (λ byte. byte == slash) rest

-- how many bytes are left to be cut, one more where there is a text
abbrev pub left_in : Option (List ℕ) → ℕ
left_in None = 0
left_in (Some rest) = length rest + 1

-- the segments of a text: a slash at its end says nothing, and the empty text has none
unfoldable pub segments_of : List ℕ → List (List ℕ)
segments_of text = if length text == 0 then [] else slice_split (λ byte. byte == slash) (without_last_slash text)

-- the path above; the root has none
abbrev pub up : List (List ℕ) → Option (List (List ℕ))
up path = if length path == 0 then None else Some (take (length path - 1) path)

-- one segment further: `.` stays, `..` goes up, and the name of an entry goes down
abbrev pub after_segment : List (List ℕ) → List ℕ → Option (List (List ℕ))
after_segment path segment =
    if bytes_eq segment (46 ∷ []) then Some path
    else (if bytes_eq segment (46 ∷ 46 ∷ []) then up path
    else (if is_segment segment then Some (path ++ segment ∷ [])
    else None))

-- further by all these segments, if each leads somewhere
unfoldable pub walked : List (List ℕ) → List (List ℕ) → Option (List (List ℕ))
walked path [] = Some path
walked path (segment ∷ more) = option_and_then (λ next. walked next more) (after_segment path segment)

-- a path is a slash before each of its segments; without any it is the root
unfoldable pub path_of : List (List ℕ) → List ℕ
path_of [] = root
path_of (first ∷ more) = concat (map (λ segment. slash ∷ segment) (first ∷ more))
