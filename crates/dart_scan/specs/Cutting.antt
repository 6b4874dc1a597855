-- A cut of a text that is under way, and what is still to come of the pieces.
use Rattle.std.specs.Prelude.{ℕ, ◌≡◌, ◌+◌, ◌-◌, ◌*◌, ◌≤◌, ◌<◌, ◌==◌, Bool, true, false, List, [], ◌∷◌, ◌++◌, length, take, drop, sum_by, All, slice_range, if◌then◌else◌}
use Rattle.dart_scan.specs.declared.piece.Class.{Class}
use Rattle.dart_scan.specs.declared.piece.Class.TheVariants.{Word, StringLiteral, StringOpening, StringPart, StringClosing, UnterminatedString, InterpolationMark, InterpolationOpening, InterpolationClosing}
use Rattle.dart_scan.specs.declared.piece.Piece.{Piece}
use Rattle.dart_scan.specs.declared.cut.form.StringForm.{StringForm}
use Rattle.dart_scan.specs.declared.cut.strings.OpenString.{OpenString}
use Rattle.dart_scan.specs.declared.cut.line.Line.{Line}
use Rattle.dart_scan.specs.declared.cut.cutting.Within.{Within}
use Rattle.dart_scan.specs.declared.cut.cutting.Within.TheVariants.{InCode, InString}
use Rattle.dart_scan.specs.Characters.{is_within_line}
use Rattle.dart_scan.specs.Lexemes.{run}
use Rattle.dart_scan.specs.Strings.{opening_of}
use Rattle.dart_scan.specs.Pieces.{Spelled, spelled}
use Rattle.dart_scan.specs.Openings.{shape}
use Rattle.dart_scan.specs.Suspended.{Suspended, resumed, resumed_within}

-- A cut: the text and the pieces so far, those of open strings too; from which byte on the next piece stands, and how far the text reaches around it; whether it stands in a string; the strings around it, innermost first; and a line of the text.
pub record Cut : Type 0 where
  pub text : List ℕ
  pub pieces : List Piece
  pub at : ℕ
  pub end : ℕ
  pub within : Within
  pub around : List OpenString
  pub line : Line

-- the text from the next piece on, as far as it reaches
abbrev pub rest_of : Cut → List ℕ
rest_of cut = slice_range cut.text cut.at cut.end

-- how many bytes are of these pieces
abbrev pub size_of : List Piece → ℕ
size_of pieces = sum_by (λ piece. piece.size) pieces

-- the line goes from its first byte to its end
abbrev pub Ends : List ℕ → Line → Type 0
Ends text line = line.end ≡ line.from + run is_within_line (drop line.from text)

-- an open string whose text reaches so far, and in which so many braces are open
abbrev pub suspended : (text : List ℕ) → (pieces : List Piece) → (end braces : ℕ) → OpenString → Suspended
suspended text pieces end braces string = record {
  form = shape string.form;
  before = spelled (take string.pieces pieces) text;
  reach = slice_range text string.start end;
  beyond = slice_range text end string.outside;
  braces = braces;
}

-- open strings, innermost first
unfoldable pub all_suspended : (text : List ℕ) → (pieces : List Piece) → (end braces : ℕ) → List OpenString → List Suspended
all_suspended text pieces end braces [] = []
all_suspended text pieces end braces (string ∷ around) =
    suspended text pieces end braces string ∷ all_suspended text (take string.pieces pieces) string.outside string.braces around

-- the pieces that a cut leads to, by where the next one stands
abbrev pub to_come_within : Within → Cut → List Spelled
to_come_within (InCode braces) cut = resumed (all_suspended cut.text cut.pieces cut.end braces cut.around) (spelled cut.pieces cut.text) (rest_of cut)
to_come_within (InString string begun) cut =
    resumed_within (suspended cut.text cut.pieces cut.end 0 string) (all_suspended cut.text (take string.pieces cut.pieces) string.outside string.braces cut.around)
    (spelled cut.pieces cut.text) (take begun (rest_of cut)) (drop begun (rest_of cut))

-- the pieces that a cut leads to
abbrev pub to_come : Cut → List Spelled
to_come cut = to_come_within cut.within cut

-- an open string is of a form, and lies behind some of the pieces and in the text around it
pub record Lies (pieces : List Piece) (end : ℕ) (string : OpenString) : Type 0 where
  pub some : 1 ≤ length string.form.quotes.now
  pub short : length string.form.quotes.now ≤ 3
  pub few : string.pieces ≤ length pieces
  pub start : size_of (take string.pieces pieces) ≡ string.start
  pub forward : string.start < end
  pub outside : end ≤ string.outside
  pub braces : string.braces ≤ string.start

-- open strings lie one in another, and the outermost in the text
unfoldable pub Nested : (text : List ℕ) → (pieces : List Piece) → (end : ℕ) → List OpenString → Type 0
Nested text pieces end [] = end ≡ length text
Nested text pieces end (string ∷ around) = Lies pieces end string × Nested text (take string.pieces pieces) string.outside around

-- the place of the next piece
abbrev pub Stands : Within → Cut → Type 0
Stands (InCode braces) cut = (braces ≤ cut.at) × Nested cut.text cut.pieces cut.end cut.around
Stands (InString string begun) cut = (cut.at + begun ≤ cut.end) × Nested cut.text cut.pieces cut.end (string ∷ cut.around)

-- a cut that may come about
pub record Sound (cut : Cut) : Type 0 where
  pub pieces : size_of cut.pieces ≡ cut.at
  pub some : All (λ piece. 0 < piece.size) cut.pieces
  pub within : cut.at ≤ cut.end
  pub inside : cut.end ≤ length cut.text
  pub line : Ends cut.text cut.line
  pub from : cut.line.from ≤ cut.at
  pub stands : Stands cut.within cut

-- the next piece stands in no string
abbrev pub IsCode : Within → Type 0
IsCode (InCode braces) = Unit {0}
IsCode (InString string begun) = ⊥

-- how many steps are left at most
abbrev pub steps_left : Within → Cut → ℕ
steps_left (InCode braces) cut = 2 * (length cut.text - cut.at) + length cut.around
steps_left (InString string begun) cut = 2 * (length cut.text - (cut.at + begun)) + length cut.around + 1

-- One step of a cut: it leads to the same pieces.
pub record Steps (old new : Cut) : Type 0 where
  pub text : new.text ≡ old.text
  pub sound : Sound new
  pub same : to_come new ≡ to_come old
  pub less : steps_left new.within new < steps_left old.within old

-- the next piece stands in no string, and in no interpolation of one
pub record IsOutside (cut : Cut) : Type 0 where
  pub code : IsCode cut.within
  pub none : cut.around ≡ []

-- a cut that is done
pub record IsDone (old new : Cut) : Type 0 where
  pub text : new.text ≡ old.text
  pub sound : Sound new
  pub all : spelled new.pieces new.text ≡ to_come old
  pub end : new.at ≡ length new.text
  pub outside : IsOutside new

-- a step, if there is one, or else the end
abbrev pub StepsOrEnds : Bool → Cut → Cut → Type 0
StepsOrEnds true old new = Steps old new
StepsOrEnds false old new = IsDone old new

-- one piece more
abbrev pub added : Class → (size : ℕ) → Cut → Cut
added class size cut = record cut { pieces = cut.pieces ++ record { class = class; size = size } ∷ []; at = cut.at + size }

-- a string is left
abbrev pub left : OpenString → Cut → Cut
left string cut = record cut { end = string.outside; within = InCode string.braces }

-- a string goes on behind a `}`
abbrev pub continued : OpenString → Cut → Cut
continued string cut = let behind = added InterpolationClosing 1 cut in record behind { within = InString string 0 }

-- one piece more that is no string
abbrev pub passed : Piece → (braces : ℕ) → Cut → Cut
passed piece braces cut = let behind = added piece.class piece.size cut in record behind { within = InCode braces }

-- a string that begins in a cut
abbrev pub string_in : StringForm → (braces : ℕ) → Cut → OpenString
string_in form braces cut = record { form = form; pieces = length cut.pieces; start = cut.at; outside = cut.end; braces = braces }

-- a string begins, which may reach so far
abbrev pub entered : StringForm → (braces reach : ℕ) → Line → Cut → Cut
entered form braces reach line cut = record cut { end = reach; within = InString (string_in form braces cut) (length (opening_of (shape form))); line = line }

-- a string that never ends takes the place of its pieces
abbrev pub abandoned : OpenString → Cut → Cut
abandoned string cut =
    let before = record cut { pieces = take string.pieces cut.pieces; at = string.start } in left string (added UnterminatedString (cut.end - string.start) before)

-- a string ends with so many bytes
abbrev pub closed : OpenString → (begun size : ℕ) → Cut → Cut
closed string begun size cut = left string (added (if begun == 0 then StringClosing else StringLiteral) size cut)

-- the bytes before an interpolation, if there are any
abbrev pub with_part : (begun size : ℕ) → Cut → Cut
with_part begun size cut = if size == 0 then cut else added (if begun == 0 then StringPart else StringOpening) size cut

-- an interpolation of an expression begins behind so many bytes
abbrev pub interpolated : OpenString → (begun size : ℕ) → Cut → Cut
interpolated string begun size cut = let behind = added InterpolationOpening 2 (with_part begun size cut) in record behind { around = string ∷ cut.around; within = InCode 0 }

-- an interpolation by name stands behind so many bytes
abbrev pub named : OpenString → (begun size name : ℕ) → Cut → Cut
named string begun size name cut = let behind = added Word name (added InterpolationMark 1 (with_part begun size cut)) in record behind { within = InString string 0 }

-- a cut that has just begun
abbrev pub fresh : (text : List ℕ) → Line → Cut
fresh text line = record { text = text; pieces = []; at = 0; end = length text; within = InCode 0; around = []; line = line }
