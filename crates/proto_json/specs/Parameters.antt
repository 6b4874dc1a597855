-- Which requests parameters give.
use Rattle.std.specs.Prelude.{ℕ, Bool, List, [], ◌∷◌, ◌++◌, map, if◌then◌else◌, codes, bytes_eq, Option, Some, None, option_map, option_and_then}
use Rattle.std.specs.Cmp.Lexicographic.{slice_cmp}
use Rattle.std.specs.List.{list_all, AllPass}
use Rattle.std.specs.List.Sorted.{IsStrictlySortedBy}
use Rattle.std.specs.Ordering.{nat_cmp}
use Rattle.serde_json.specs.Data.{Data, Items, no_items, item, Members, no_members, member}
use Rattle.serde_json.specs.Find.{get, as_str, as_number, as_u64, as_array, as_object}
use Rattle.fault_io.specs.Paths.{is_path}
use Rattle.proto_json.specs.declared.overlay.FileOverlay.{FileOverlay}
use Rattle.proto_json.specs.declared.overlay.Overlay.{Overlay}
use Rattle.proto_json.specs.declared.overlay.Overlay.TheVariants.{Add, Change, Remove}
use Rattle.proto_json.specs.declared.overlay.OverlayEdit.{OverlayEdit}
use Rattle.proto_json.specs.declared.request.Method.{Method}
use Rattle.proto_json.specs.declared.request.Method.TheVariants as method
use Rattle.proto_json.specs.declared.request.Request.{Request}
use Rattle.proto_json.specs.declared.request.Request.TheVariants.{SetRoots, Reanalyze, Update, GetErrors, GetWork}

-- the string at a key, if the value is an object with a string there
abbrev pub text_at : List ℕ → Data → Option (List ℕ)
text_at key d = option_and_then as_str (get key d)

-- the integer from 0 to 2^64 - 1 at a key, written without a fraction, an exponent or a sign
abbrev pub integer_at : List ℕ → Data → Option ℕ
integer_at key d = option_and_then as_u64 (option_and_then as_number (get key d))

-- the list at a key
abbrev pub list_at : List ℕ → Data → Option Items
list_at key d = option_and_then as_array (get key d)

-- what is read of each value of a list, in order, if something is read of each
abbrev pub read_all : {A : Type 0} → (Data → Option A) → Items → Option (List A)
read_all read no_items = Some []
read_all read (item d ds) = option_and_then (λ a. option_map (λ more. a ∷ more) (read_all read ds)) (read d)

-- an edit has an offset, a length and a replacement
abbrev pub edit_with : Option ℕ → Option ℕ → Option (List ℕ) → Option OverlayEdit
edit_with (Some o) (Some l) (Some text) = Some record { offset = o; length = l; replacement = text }
edit_with (Some o) (Some l) None = None
edit_with (Some o) None text = None
edit_with None length text = None

abbrev pub edit_of : Data → Option OverlayEdit
edit_of d = edit_with (integer_at (codes "offset") d) (integer_at (codes "length") d) (text_at (codes "replacement") d)

-- the overlay of a type: it adds a text, changes one by edits, or removes it
abbrev pub overlay_of_type : List ℕ → Data → Option Overlay
overlay_of_type type d =
    if bytes_eq type (codes "add") then option_map Add (text_at (codes "content") d)
    else (if bytes_eq type (codes "change") then option_map Change (option_and_then (read_all edit_of) (list_at (codes "edits") d))
    else (if bytes_eq type (codes "remove") then Some Remove
    else None))

-- an overlay names its type; other members are ignored
abbrev pub overlay_of : Data → Option Overlay
overlay_of d = option_and_then (λ type. overlay_of_type type d) (text_at (codes "type") d)

-- the files of an object from paths to overlays, in the order of the paths, if each member is one
abbrev pub files_of : Members → Option (List FileOverlay)
files_of no_members = Some []
files_of (member path d ms) =
    option_and_then (λ overlay. option_map (λ more. record { path = path; overlay = overlay } ∷ more) (files_of ms)) (overlay_of d)

-- the parameters of `analysis.updateContent`: `files` is an object from paths to overlays
abbrev pub update_of : Data → Option Request
update_of params = option_map Update (option_and_then files_of (option_and_then as_object (get (codes "files") params)))

-- the parameters of `analysis.getErrors`: `file` is a string
abbrev pub get_errors_of : Data → Option Request
get_errors_of params = option_map GetErrors (text_at (codes "file") params)

-- the strings of the list at a key
abbrev pub texts_at : List ℕ → Data → Option (List (List ℕ))
texts_at key d = option_and_then (read_all as_str) (list_at key d)

-- the parameters of `analysis.setAnalysisRoots`: `included` and `excluded` are lists of strings
abbrev pub set_roots_of : Data → Option Request
set_roots_of params =
    option_and_then (λ included. option_map (SetRoots included) (texts_at (codes "excluded") params)) (texts_at (codes "included") params)

-- the request of a method and its parameters, one row for each method
abbrev pub request_with : Method → Data → Option Request
request_with method.SetRoots params = set_roots_of params
request_with method.Reanalyze params = Some Reanalyze
request_with method.UpdateContent params = update_of params
request_with method.GetErrors params = get_errors_of params
request_with method.GetWork params = Some GetWork

-- the request of a method whose parameters are left out: only of those that have none
abbrev pub request_without : Method → Option Request
request_without method.SetRoots = None
request_without method.Reanalyze = Some Reanalyze
request_without method.UpdateContent = None
request_without method.GetErrors = None
request_without method.GetWork = Some GetWork

-- the request of a method, whose parameters may be left out
abbrev pub request_of : Method → Option Data → Option Request
request_of m None = request_without m
request_of m (Some params) = request_with m params

-- the paths that a request names
abbrev pub paths_of : Request → List (List ℕ)
paths_of (SetRoots included excluded) = included ++ excluded
paths_of Reanalyze = []
paths_of (Update files) = map (λ f. f.path) files
paths_of (GetErrors file) = file ∷ []
paths_of GetWork = []

-- each path of a request is absolute and normalized
abbrev pub has_paths : Request → Bool
has_paths request = list_all is_path (paths_of request)

-- paths, each of which is absolute and normalized
abbrev pub ArePaths : List (List ℕ) → Type 0
ArePaths = AllPass is_path

-- the paths of files rise, compared byte by byte: none comes twice
abbrev pub RiseByPath : List FileOverlay → Type 0
RiseByPath files = IsStrictlySortedBy (slice_cmp nat_cmp) (map (λ file. file.path) files)
