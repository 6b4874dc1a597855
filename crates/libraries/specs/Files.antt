-- The paths of the files that there are.
use Rattle.std.specs.Prelude.{ℕ, List, [], ◌∷◌, ◌++◌, bytes_eq, fold, if◌then◌else◌}
use Rattle.std.specs.List.{list_any}
use Rattle.libraries.specs.declared.files.SourceFile.{SourceFile}

-- these texts and one more, unless it is among them
abbrev pub with_text : List (List ℕ) → List ℕ → List (List ℕ)
with_text texts text = if list_any (bytes_eq text) texts then texts else texts ++ text ∷ []

-- that of a file too
abbrev pub with_file : List (List ℕ) → SourceFile → List (List ℕ)
with_file paths file = with_text paths file.path

-- the paths of files, each once: where no two files have one path, the place of a path is that of its file
abbrev pub paths_of : List SourceFile → List (List ℕ)
paths_of files = fold with_file [] files
