-- What files come to, within the limits.
use Rattle.std.specs.Prelude.{◌≡◌, ◌⊎◌, ◌+◌, ℕ, ⊤, List, [], ◌∷◌, nat_lt, is_some, if◌then◌else◌, Result, Ok, Err}
use Rattle.fault_io.specs.Stored.{Stored}
use Rattle.load_files.specs.Contents.{contents_of}
use Rattle.load_files.specs.Counts.{path_count, byte_count}
use Rattle.load_files.specs.Tables.{Table, contents_at, with_contents}
use Rattle.load_files.specs.Visits.{Visit, file, too_deep, all_visits}
use Rattle.load_files.specs.declared.kept.KeptFile.{KeptFile}
use Rattle.load_files.specs.declared.loading.TheConstants.{MAX_PATHS, MAX_BYTES}
use Rattle.load_files.specs.declared.refusal.LoadRefusal.{LoadRefusal}
use Rattle.load_files.specs.declared.refusal.LoadRefusal.TheVariants.{FilesFault, TooManyFiles, TooDeep, TooMuch, Memory}
use Rattle.load_files.specs.declared.roots.Roots.{Roots}
use Rattle.load_files.specs.declared.walk.TheConstants.{MAX_DEPTH}

-- the files that were read so far, beside the overlays
pub record Loaded : Type 0 where
  pub kept : List KeptFile
  pub files : Table

-- these files, unless they are past a limit together with the overlays: the count of paths is looked at first
abbrev pub limited : List KeptFile → Table → Result Table LoadRefusal
limited kept files =
    if nat_lt MAX_PATHS (path_count kept files) then Err (TooManyFiles (path_count kept files))
    else (if nat_lt MAX_BYTES (byte_count kept files) then Err (TooMuch (byte_count kept files))
    else Ok files)

-- these files and one more; a path that was read before counts once
unfoldable pub with_file : List KeptFile → List ℕ → List ℕ → Table → Result Table LoadRefusal
with_file kept path bytes files =
    if is_some (contents_at path files) then Ok files
    else limited kept (with_contents path (contents_of bytes) files)

-- the files after one visit
abbrev pub after_visit : List KeptFile → Visit → Table → Result Table LoadRefusal
after_visit kept (file path bytes) files = with_file kept path bytes files
after_visit kept too_deep files = Err (TooDeep (MAX_DEPTH + 1))

-- what is visited next starts from the files there, and a refusal is that of all
abbrev pub go_on : (Table → Result Table LoadRefusal) → Result Table LoadRefusal → Result Table LoadRefusal
go_on more (Ok files) = more files
go_on more (Err refusal) = Err refusal

-- the files after visits, one after another, up to the first limit that is passed
unfoldable pub after_visits : List KeptFile → List Visit → Table → Result Table LoadRefusal
after_visits kept [] files = Ok files
after_visits kept (visit ∷ more) files = go_on (after_visits kept more) (after_visit kept visit files)

-- The files of the roots, or the first limit that is passed.
abbrev pub loaded : Stored → Roots → List KeptFile → Result Table LoadRefusal
loaded stored roots kept = after_visits kept (all_visits stored roots) []

-- a fault of the store and want of memory may come at any place
abbrev pub ComesAnywhere : LoadRefusal → Type 0
ComesAnywhere refusal = (refusal ≡ FilesFault) ⊎ (refusal ≡ Memory)

-- the answer leaves these files, or refuses as the result does
abbrev pub Gives : Result ⊤ LoadRefusal → Table → Result Table LoadRefusal → Type 0
Gives (Ok done) files answer = answer ≡ Ok files
Gives (Err refusal) files answer = ComesAnywhere refusal ⊎ (answer ≡ Err refusal)

-- the result is the answer, unless the store failed or memory was wanting
abbrev pub Loads : Result Table LoadRefusal → Result Table LoadRefusal → Type 0
Loads (Ok files) answer = answer ≡ Ok files
Loads (Err refusal) answer = ComesAnywhere refusal ⊎ (answer ≡ Err refusal)
