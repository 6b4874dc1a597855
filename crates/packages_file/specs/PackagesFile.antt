-- What a packages file lists.
use Rattle.std.specs.Prelude.{◌≡◌, ⊤, ℕ, Bool, true, false, not, ◌&&◌, ◌==◌, List, [], ◌∷◌, codes, bytes_eq, if◌then◌else◌, Option, None, Some, option_map, option_and_then, Result, Ok, Err}
use Rattle.std.specs.List.{list_any}
use Rattle.serde_json.specs.Data.{Data}
use Rattle.serde_json.specs.Find.{get, as_str}
use Rattle.dart_uri.specs.References.{resolved}
use Rattle.load_files.specs.declared.packages.Package.{Package}
use Rattle.proto_json.specs.Parameters.{text_at, integer_at, list_at, read_all}
use Rattle.proto_json.specs.Requests.{line_data}
use Rattle.packages_file.specs.declared.refusal.PackagesRefusal.{PackagesRefusal}
use Rattle.packages_file.specs.declared.refusal.PackagesRefusal.TheVariants.{Refused, Memory}

-- a string may be left out, and what is there is a string
abbrev pub optional_text : Option Data → Option (Option (List ℕ))
optional_text None = Some None
optional_text (Some d) = option_map Some (as_str d)

abbrev pub optional_text_at : List ℕ → Data → Option (Option (List ℕ))
optional_text_at key d = optional_text (get key d)

-- the folder of a package: its root, which is named from the folder of the file, or what is named from that root
abbrev pub folder_in : Option (List ℕ) → Option (List ℕ) → Option (List ℕ)
folder_in root None = root
folder_in root (Some package_uri) = option_and_then (λ folder. resolved folder package_uri) root

abbrev pub folder_of : List ℕ → List ℕ → Option (List ℕ) → Option (List ℕ)
folder_of folder root_uri package_uri = folder_in (resolved folder root_uri) package_uri

-- the parts together, if each is as it should be
abbrev pub package_with : List ℕ → Option (List ℕ) → Option (List ℕ) → Option (Option (List ℕ)) → Option Package
package_with folder None root_uri package_uri = None
package_with folder (Some name) None package_uri = None
package_with folder (Some name) (Some root_uri) None = None
package_with folder (Some name) (Some root_uri) (Some package_uri) =
    option_map (λ path. record { name = name; folder = path }) (folder_of folder root_uri package_uri)

-- a package has a name and the URI of its root, and may have that of its libraries; other members are ignored
unfoldable pub package_of : List ℕ → Data → Option Package
package_of folder d = package_with folder (text_at (codes "name") d) (text_at (codes "rootUri") d) (optional_text_at (codes "packageUri") d)

-- one of the packages has the name
abbrev pub is_named : List ℕ → List Package → Bool
is_named name packages = list_any (λ each. bytes_eq each.name name) packages

-- no two packages have the same name
abbrev pub are_distinct : List Package → Bool
are_distinct [] = true
are_distinct (first ∷ packages) = not (is_named first.name packages) && are_distinct packages

-- packages, if no two have the same name
abbrev pub distinct_packages : List Package → Option (List Package)
distinct_packages packages = if are_distinct packages then Some packages else None

-- the packages of the list of a JSON value
abbrev pub members_in : List ℕ → Data → Option (List Package)
members_in folder d = option_and_then (read_all (package_of folder)) (list_at (codes "packages") d)

-- the version of this format
abbrev pub is_two : Option ℕ → Bool
is_two None = false
is_two (Some version) = version == 2

-- a JSON value says that it has this version
abbrev pub has_version : Data → Bool
has_version d = is_two (integer_at (codes "configVersion") d)

-- the packages that a JSON value lists
unfoldable pub listed_in : List ℕ → Data → Option (List Package)
listed_in folder d = if has_version d then option_and_then distinct_packages (members_in folder d) else None

-- The packages that the bytes of a packages file in a folder list; nothing where they are no such file.
abbrev pub packages_in : List ℕ → List ℕ → Option (List Package)
packages_in folder bytes = option_and_then (listed_in folder) (line_data bytes)

-- the result is these packages, or a refusal where there are none, unless memory was wanting
abbrev pub Reads : Result (List Package) PackagesRefusal → Option (List Package) → Type 0
Reads (Ok packages) listed = listed ≡ Some packages
Reads (Err Refused) listed = listed ≡ None
Reads (Err Memory) listed = ⊤
