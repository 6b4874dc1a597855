-- Which request a line is.
use Rattle.std.specs.Prelude.{◌≡◌, ◌⊎◌, ℕ, List, [], if◌then◌else◌, nat_le, length, codes, bytes_eq, Option, Some, None, option_map, option_and_then, Result, Ok, Err}
use Rattle.std.specs.Str.{is_utf8}
use Rattle.serde_json.specs.Data.{Data}
use Rattle.serde_json.specs.Read.{read}
use Rattle.serde_json.specs.Find.{get, as_object}
use Rattle.proto_json.specs.Parameters.{text_at, request_of, has_paths}
use Rattle.proto_json.specs.declared.code.Code.TheVariants.{InvalidRequest, UnknownRequest, InvalidParameter, InvalidFilePathFormat}
use Rattle.proto_json.specs.declared.request.Asked.{Asked}
use Rattle.proto_json.specs.declared.request.Method.{Method}
use Rattle.proto_json.specs.declared.request.Method.TheVariants as method
use Rattle.proto_json.specs.declared.request.Request.{Request}
use Rattle.proto_json.specs.declared.request.TheConstants.{MAX_LINE}
use Rattle.proto_json.specs.declared.request.RequestRefusal.{RequestRefusal}
use Rattle.proto_json.specs.declared.request.RequestRefusal.TheVariants.{Refused, Memory}

-- the JSON value that a line is, if it is UTF-8 and `serde_json` reads it
unfoldable pub line_data : List ℕ → Option Data
line_data line = if is_utf8 line then read line else None

-- what stands in every request object
pub record Head : Type 0 where
  pub id : List ℕ
  pub method : List ℕ
  pub params : Option Data

-- parameters may be left out; those that are there are an object
abbrev pub params_of : Option Data → Option (Option Data)
params_of None = Some None
params_of (Some p) = option_map (λ _. Some p) (as_object p)

-- the parts together, if each is as it should be
abbrev pub head_with : Option (List ℕ) → Option (List ℕ) → Option (Option Data) → Option Head
head_with None method params = None
head_with (Some i) None params = None
head_with (Some i) (Some m) None = None
head_with (Some i) (Some m) (Some ps) = Some record { id = i; method = m; params = ps }

-- a request object has an `id` and a `method` that are strings; other members are ignored
abbrev pub head_of : Data → Option Head
head_of d = head_with (text_at (codes "id") d) (text_at (codes "method") d) (params_of (get (codes "params") d))

-- the method of a name
abbrev pub method_named : List ℕ → Option Method
method_named name =
    if bytes_eq name (codes "analysis.setAnalysisRoots") then Some method.SetRoots
    else (if bytes_eq name (codes "analysis.reanalyze") then Some method.Reanalyze
    else (if bytes_eq name (codes "analysis.updateContent") then Some method.UpdateContent
    else (if bytes_eq name (codes "analysis.getErrors") then Some method.GetErrors
    else (if bytes_eq name (codes "profile.getWork") then Some method.GetWork
    else None))))

-- a line that is no request object; its reply has the empty id
abbrev pub not_a_request : RequestRefusal
not_a_request = Refused [] InvalidRequest

-- the paths of a request are absolute and normalized, or it is refused
abbrev pub answer_to_request : List ℕ → Request → Result Asked RequestRefusal
answer_to_request id request = if has_paths request then Ok record { id = id; request = request } else Err (Refused id InvalidFilePathFormat)

-- the parameters give a request, or they are missing or of another form
abbrev pub answer_to_params : List ℕ → Option Request → Result Asked RequestRefusal
answer_to_params id None = Err (Refused id InvalidParameter)
answer_to_params id (Some request) = answer_to_request id request

-- the method is known, or it is refused before its parameters are looked at
abbrev pub answer_to_method : List ℕ → Option Method → Option Data → Result Asked RequestRefusal
answer_to_method id None params = Err (Refused id UnknownRequest)
answer_to_method id (Some m) params = answer_to_params id (request_of m params)

-- a request object, by its method and parameters; its refusals repeat its id
abbrev pub answer_to_head : Head → Result Asked RequestRefusal
answer_to_head h = answer_to_method h.id (method_named h.method) h.params

-- the request object of a line that is not too long
unfoldable pub head_by : List ℕ → Option Head
head_by line = if nat_le (length line) MAX_LINE then option_and_then head_of (line_data line) else None

-- the line is a request object, or it is refused before its method is looked at
abbrev pub answer_to : Option Head → Result Asked RequestRefusal
answer_to None = Err not_a_request
answer_to (Some h) = answer_to_head h

-- A line is its request, or is refused by the first of these that is wrong: length, JSON, request object, method, parameters, format of the paths.
abbrev pub answer : List ℕ → Result Asked RequestRefusal
answer line = answer_to (head_by line)

-- the result is the answer, unless memory was wanting
abbrev pub IsUnlessMemory : {T : Type 0} → Result T RequestRefusal → Result T RequestRefusal → Type 0
IsUnlessMemory result answer = (result ≡ Err Memory) ⊎ (result ≡ answer)

-- the line is this request, and its reply repeats this id
abbrev pub IsAsked : (line id : List ℕ) → Request → Type 0
IsAsked line id request = answer line ≡ Ok record { id = id; request = request }
