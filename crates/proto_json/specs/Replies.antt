-- Which bytes a reply is.
use Rattle.std.specs.Prelude.{◌≡◌, ℕ, List, [], ◌∷◌, ◌++◌, codes, map, Contains}
use Rattle.fault_io.specs.Lines.{line_feed}
use Rattle.serde_json.specs.Data.{Data, Items, number, unsigned, string, array, object, no_members, member}
use Rattle.serde_json.specs.View.{items_of}
use Rattle.serde_json.specs.Written.{compact_text}
use Rattle.proto_json.specs.Codes.{name_of, message_of}
use Rattle.proto_json.specs.declared.reply.ErrorKind.{ErrorKind}
use Rattle.proto_json.specs.declared.reply.ErrorKind.TheVariants.{SyntacticError, CompileTimeError}
use Rattle.proto_json.specs.declared.reply.ErrorRow.{ErrorRow}
use Rattle.proto_json.specs.declared.reply.Location.{Location}
use Rattle.proto_json.specs.declared.reply.ReplyBody.{ReplyBody}
use Rattle.proto_json.specs.declared.reply.ReplyBody.TheVariants.{Plain, Errors, Work, Error}
use Rattle.proto_json.specs.declared.reply.Severity.{Severity}
use Rattle.proto_json.specs.declared.reply.Severity.TheVariants as severity

-- the name of a severity in a reply
abbrev pub severity_name : Severity → List ℕ
severity_name severity.Error = codes "ERROR"

-- the name of a kind of error in a reply
abbrev pub kind_name : ErrorKind → List ℕ
kind_name SyntacticError = codes "SYNTACTIC_ERROR"
kind_name CompileTimeError = codes "COMPILE_TIME_ERROR"

-- a number of JSON that is a natural one
abbrev pub natural : ℕ → Data
natural n = number (unsigned n)

-- the object of a place, its keys sorted, as those of each object below
abbrev pub location_data : Location → Data
location_data l =
    object (member (codes "file") (string l.file)
    (member (codes "length") (natural l.length)
    (member (codes "offset") (natural l.offset)
    (member (codes "startColumn") (natural l.start_column)
    (member (codes "startLine") (natural l.start_line) no_members)))))

-- the object of an error
abbrev pub row_data : ErrorRow → Data
row_data r =
    object (member (codes "code") (string r.code)
    (member (codes "location") (location_data r.location)
    (member (codes "message") (string r.message)
    (member (codes "severity") (string (severity_name r.severity))
    (member (codes "type") (string (kind_name r.kind)) no_members)))))

-- the objects of errors, in order
abbrev pub rows_data : List ErrorRow → Items
rows_data rows = items_of (map row_data rows)

-- the object of a reply: the id, and beside it a result, the code and message of a refusal, or nothing
abbrev pub reply_data : List ℕ → ReplyBody → Data
reply_data id Plain = object (member (codes "id") (string id) no_members)
reply_data id (Errors rows) =
    object (member (codes "id") (string id)
    (member (codes "result") (object (member (codes "errors") (array (rows_data rows)) no_members)) no_members))
reply_data id (Work parses links checks) =
    object (member (codes "id") (string id)
    (member (codes "result") (object
    (member (codes "checks") (natural checks)
    (member (codes "links") (natural links)
    (member (codes "parses") (natural parses) no_members)))) no_members))
reply_data id (Error code) =
    object (member (codes "error") (object (member (codes "code") (string (name_of code)) (member (codes "message") (string (message_of code)) no_members)))
    (member (codes "id") (string id) no_members))

-- the text of the object with no space, and a line feed
abbrev pub reply_line : List ℕ → ReplyBody → List ℕ
reply_line id body = compact_text (reply_data id body) ++ line_feed ∷ []

-- the bytes are one line: a line feed ends them, and no other stands before it
pub record IsOneLine (bytes : List ℕ) : Type 0 where
  pub text : List ℕ
  pub ended : bytes ≡ text ++ line_feed ∷ []
  pub unbroken : ¬ (Contains text line_feed)
