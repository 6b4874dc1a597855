-- What holds of each request that is read.
use Rattle.std.proofs.Common.{◌≡◌, ℕ, List, ◌∷◌, map, Bool, true, false, if◌then◌else◌, Option, Some, None, option_map, option_and_then, Ok, Err, IfSome, IfOk, codes, nat_le, length, refl, sym, ap, subst}
use Rattle.std.specs.Prelude.{⊤}
use Rattle.std.specs.List.Sorted.{IsStrictlySortedBy}
use Rattle.std.specs.Str.{is_utf8}
use Rattle.std.proofs.lemmas.Option.{IfSome_then}
use Rattle.serde_json.specs.Data.{Data, Members, no_members, member}
use Rattle.serde_json.specs.Find.{get, as_object}
use Rattle.serde_json.specs.Read.{read}
use Rattle.proto_json.specs.Parameters.{overlay_of, files_of, update_of, set_roots_of, request_with, request_without, request_of, has_paths, text_at, texts_at}
use Rattle.proto_json.specs.declared.request.TheConstants.{MAX_LINE}
use Rattle.proto_json.specs.Requests.{Head, head_with, head_of, head_by, params_of, line_data, method_named, answer, answer_to, answer_to_method, answer_to_params}
use Rattle.proto_json.specs.declared.request.Asked.{Asked}
use Rattle.proto_json.specs.declared.request.Method.{Method}
use Rattle.proto_json.specs.declared.request.Method.TheVariants as method
use Rattle.proto_json.specs.declared.request.Request.{Request}
use Rattle.proto_json.specs.declared.request.Request.TheVariants.{SetRoots, Reanalyze, Update, GetErrors, GetWork}
use Rattle.proto_json.specs.declared.request.RequestRefusal.{RequestRefusal}
use Rattle.proto_json.specs.declared.request.RequestRefusal.TheVariants.{Refused}
use Rattle.proto_json.specs.declared.code.Code.TheVariants.{InvalidFilePathFormat}
use Rattle.proto_json.proofs.MemberOrder.{key_cmp, keys, Rise, IsInOrder, IsInOrder-read, get-in_order, as_object-rises, IfSome-map, IfSome-and_then, IfSome-map_any, IfSome-and_then_any}

-- the files of an update rise by their paths
abbrev pub HasRisingFiles : Request → Type 0
HasRisingFiles (SetRoots included excluded) = ⊤
HasRisingFiles Reanalyze = ⊤
HasRisingFiles (Update files) = IsStrictlySortedBy key_cmp (map (λ f. f.path) files)
HasRisingFiles (GetErrors file) = ⊤
HasRisingFiles GetWork = ⊤

-- the paths of files are the keys of their members
files_of-paths : (ms : Members) → IfSome (files_of ms) (λ files. map (λ f. f.path) files ≡ keys ms)
files_of-paths no_members = refl
files_of-paths (member path d ms) =
    IfSome-and_then_any (λ files. map (λ f. f.path) files ≡ path ∷ keys ms) (λ overlay. option_map (λ more. record { path = path; overlay = overlay } ∷ more) (files_of ms))
    (λ overlay. IfSome-map (λ files. map (λ f. f.path) files ≡ keys ms) (λ files. map (λ f. f.path) files ≡ path ∷ keys ms) (λ more. record { path = path; overlay = overlay } ∷ more)
    (λ more e. ap (λ ks. path ∷ ks) e) (files_of ms) (files_of-paths ms))
    (overlay_of d)

files_of-rises : (ms : Members) → Rise ms → IfSome (files_of ms) (λ files. HasRisingFiles (Update files))
files_of-rises ms rise = IfSome_then (files_of ms) (files_of-paths ms) (λ files e. subst (IsStrictlySortedBy key_cmp) (sym e) rise)

update_of-rises : (params : Data) → IsInOrder params → IfSome (update_of params) HasRisingFiles
update_of-rises params h =
    let found = get-in_order (codes "files") params h in
    let members = IfSome-and_then IsInOrder Rise as_object as_object-rises (get (codes "files") params) found in
    let files = IfSome-and_then Rise (λ files. HasRisingFiles (Update files)) files_of files_of-rises (option_and_then as_object (get (codes "files") params)) members in
    IfSome-map (λ files. HasRisingFiles (Update files)) HasRisingFiles Update (λ files rise. rise) (option_and_then files_of (option_and_then as_object (get (codes "files") params))) files

set_roots_of-rises : (params : Data) → IfSome (set_roots_of params) HasRisingFiles
set_roots_of-rises params =
    IfSome-and_then_any HasRisingFiles (λ included. option_map (SetRoots included) (texts_at (codes "excluded") params))
    (λ included. IfSome-map_any HasRisingFiles (SetRoots included) (λ excluded. tt) (texts_at (codes "excluded") params)) (texts_at (codes "included") params)

-- of each method
request_with-rises : (m : Method) (params : Data) → IsInOrder params → IfSome (request_with m params) HasRisingFiles
request_with-rises method.SetRoots params h = set_roots_of-rises params
request_with-rises method.Reanalyze params h = tt
request_with-rises method.UpdateContent params h = update_of-rises params h
request_with-rises method.GetErrors params h = IfSome-map_any HasRisingFiles GetErrors (λ file. tt) (text_at (codes "file") params)
request_with-rises method.GetWork params h = tt

request_without-rises : (m : Method) → IfSome (request_without m) HasRisingFiles
request_without-rises method.SetRoots = tt
request_without-rises method.Reanalyze = tt
request_without-rises method.UpdateContent = tt
request_without-rises method.GetErrors = tt
request_without-rises method.GetWork = tt

request_of-rises : (m : Method) (params : Option Data) → IfSome params IsInOrder → IfSome (request_of m params) HasRisingFiles
request_of-rises m None h = request_without-rises m
request_of-rises m (Some params) h = request_with-rises m params h

-- the parameters of a request object are in order
abbrev HasParamsInOrder : Head → Type 0
HasParamsInOrder h = IfSome h.params IsInOrder

params_of-in_order : (params : Option Data) → IfSome params IsInOrder → IfSome (params_of params) (λ p. IfSome p IsInOrder)
params_of-in_order None h = tt
params_of-in_order (Some p) h = IfSome-map_any (λ p. IfSome p IsInOrder) (λ _. Some p) (λ _. h) (as_object p)

head_with-in_order : (id name : Option (List ℕ)) (params : Option (Option Data)) → IfSome params (λ p. IfSome p IsInOrder) → IfSome (head_with id name params) HasParamsInOrder
head_with-in_order None name params h = tt
head_with-in_order (Some i) None params h = tt
head_with-in_order (Some i) (Some m) None h = tt
head_with-in_order (Some i) (Some m) (Some p) h = h

head_of-in_order : (d : Data) → IsInOrder d → IfSome (head_of d) HasParamsInOrder
head_of-in_order d h =
    head_with-in_order (text_at (codes "id") d) (text_at (codes "method") d) (params_of (get (codes "params") d))
    (params_of-in_order (get (codes "params") d) (get-in_order (codes "params") d h))

-- what holds of a value if there is one
when : {A : Type 0} (P : A → Type 0) (b : Bool) (o : Option A) → IfSome o P → IfSome (if b then o else None) P
when P true o h = h
when P false o h = tt

line_data-in_order : (line : List ℕ) → IfSome (line_data line) IsInOrder
unfolding line_data
line_data-in_order line = when IsInOrder (is_utf8 line) (read line) (IsInOrder-read line)

head_by-in_order : (line : List ℕ) → IfSome (head_by line) HasParamsInOrder
unfolding head_by
head_by-in_order line =
    when HasParamsInOrder (nat_le (length line) MAX_LINE) (option_and_then head_of (line_data line))
    (IfSome-and_then IsInOrder HasParamsInOrder head_of head_of-in_order (line_data line) (line_data-in_order line))

-- a request whose paths are normalized keeps what holds of it
answer_to_request-keeps : (P : Request → Type 0) (id : List ℕ) (request : Request) (b : Bool) → P request
    → IfOk {T = Asked} {E = RequestRefusal} (if b then Ok record { id = id; request = request } else Err (Refused id InvalidFilePathFormat)) (λ asked. P asked.request)
answer_to_request-keeps P id request true h = h
answer_to_request-keeps P id request false h = tt

answer_to_params-keeps : (P : Request → Type 0) (id : List ℕ) (request : Option Request) → IfSome request P → IfOk (answer_to_params id request) (λ asked. P asked.request)
answer_to_params-keeps P id None h = tt
answer_to_params-keeps P id (Some request) h = answer_to_request-keeps P id request (has_paths request) h

-- the files of each request that is read rise
answer_to_method-rises : (id : List ℕ) (m : Option Method) (params : Option Data) → IfSome params IsInOrder → IfOk (answer_to_method id m params) (λ asked. HasRisingFiles asked.request)
answer_to_method-rises id None params h = tt
answer_to_method-rises id (Some m) params h = answer_to_params-keeps HasRisingFiles id (request_of m params) (request_of-rises m params h)

answer_to-rises : (head : Option Head) → IfSome head HasParamsInOrder → IfOk (answer_to head) (λ asked. HasRisingFiles asked.request)
answer_to-rises None h = tt
answer_to-rises (Some head) h = answer_to_method-rises head.id (method_named head.method) head.params h

pub answer-rises : (line : List ℕ) → IfOk (answer line) (λ asked. HasRisingFiles asked.request)
answer-rises line = answer_to-rises (head_by line) (head_by-in_order line)

-- the paths of each request that is read are normalized
abbrev pub HasPaths : Asked → Type 0
HasPaths asked = has_paths asked.request ≡ true

answer_to_request-paths : (id : List ℕ) (request : Request) (b : Bool) → has_paths request ≡ b
    → IfOk {T = Asked} {E = RequestRefusal} (if b then Ok record { id = id; request = request } else Err (Refused id InvalidFilePathFormat)) HasPaths
answer_to_request-paths id request true h = h
answer_to_request-paths id request false h = tt

answer_to_params-paths : (id : List ℕ) (request : Option Request) → IfOk (answer_to_params id request) HasPaths
answer_to_params-paths id None = tt
answer_to_params-paths id (Some request) = answer_to_request-paths id request (has_paths request) refl

answer_to_method-paths : (id : List ℕ) (m : Option Method) (params : Option Data) → IfOk (answer_to_method id m params) HasPaths
answer_to_method-paths id None params = tt
answer_to_method-paths id (Some m) params = answer_to_params-paths id (request_of m params)

answer_to-paths : (head : Option Head) → IfOk (answer_to head) HasPaths
answer_to-paths None = tt
answer_to-paths (Some head) = answer_to_method-paths head.id (method_named head.method) head.params

pub answer-paths : (line : List ℕ) → IfOk (answer line) HasPaths
answer-paths line = answer_to-paths (head_by line)
