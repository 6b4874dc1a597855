-- The pieces of a text: gaps and lexemes, one after another, each the longest at its place, and a string with interpolations as its parts.
use Rattle.std.specs.Prelude.{ℕ, zero, suc, ◌+◌, ◌-◌, ◌==◌, Bool, true, false, ◌&&◌, List, [], ◌∷◌, ◌++◌, length, take, drop, codes, nat_lt, if◌then◌else◌, Option, Some, None, option_map, option_and_then}
use Rattle.std.specs.Option.{option_map_or}
use Rattle.dart_scan.specs.Characters.{is_blank, is_within_line, is_beyond_ascii}
use Rattle.dart_scan.specs.Lexemes.{begins, run, word_size, integer_size, double_size, mark_size}
use Rattle.dart_scan.specs.Comments.{comment_size}
use Rattle.dart_scan.specs.Strings.{Form, opening_of, string_form, within_reach, name_size, begins_name, plain_size}
use Rattle.dart_scan.specs.declared.piece.Class.{Class}
use Rattle.dart_scan.specs.declared.piece.Class.TheVariants.{Gap, UnterminatedComment, IllegalCharacter, BeyondAscii, Word, Integer, Double, Mark, StringLiteral, StringOpening, StringPart, StringClosing, UnterminatedString, InterpolationMark, InterpolationOpening, InterpolationClosing}
use Rattle.dart_scan.specs.declared.piece.Piece.{Piece}

-- a class, and the bytes that are of it
abbrev pub Spelled : Type 0
Spelled = Class × List ℕ

-- pieces at the front of a text, and what stands behind them
pub record Read : Type 0 where
  pub pieces : List Spelled
  pub rest : List ℕ

-- these pieces, and then those
abbrev pub behind : List Spelled → Read → Read
behind pieces read = record { pieces = pieces ++ read.pieces; rest = read.rest }

-- a comment from `/*` on; one that never ends takes the rest of the text
abbrev pub comment_piece : List ℕ → Piece
comment_piece text = option_map_or (λ size. record { class = Gap; size = size }) (comment_size (drop 2 text)) (record { class = UnterminatedComment; size = length text })

-- the longer of two, and the first of two that are equally long
abbrev pub longer : Piece → Piece → Piece
longer a b = if nat_lt a.size b.size then b else a

-- The longest lexeme at the front of a text that isn't empty and begins with no gap and no string. What begins no lexeme is a gap that is reported: a run of characters beyond ASCII, or one character.
abbrev pub lexeme_at : List ℕ → Piece
lexeme_at text =
    longer (record { class = Word; size = word_size text })
    (longer (record { class = Integer; size = integer_size text })
    (longer (record { class = Double; size = double_size text })
    (longer (record { class = Mark; size = mark_size text })
    (longer (record { class = BeyondAscii; size = run is_beyond_ascii text }) (record { class = IllegalCharacter; size = 1 })))))

-- The first piece of a text that isn't empty and begins with no string. A byte order mark is a gap where it stands first of all.
abbrev pub piece_at : (first : Bool) → List ℕ → Piece
piece_at first text =
    if first && begins text (239 ∷ 187 ∷ 191 ∷ []) then record { class = Gap; size = 3 }
    else (if nat_lt 0 (run is_blank text) then record { class = Gap; size = run is_blank text }
    else (if begins text (codes "//") then record { class = Gap; size = 2 + run is_within_line (drop 2 text) }
    else (if begins text (codes "/*") then comment_piece text
    else lexeme_at text)))

-- the first piece of a text, spelled
abbrev pub read_piece : (first : Bool) → List ℕ → Read
read_piece first text =
    let piece = piece_at first text in
    record { pieces = (piece.class, take piece.size text) ∷ []; rest = drop piece.size text }

-- what is read where fewer steps are left: a string behind its opening, or what an interpolation holds behind its `${`
pub record Fewer : Type 0 where
  pub parts : Form → (begun : List ℕ) → List ℕ → Option Read
  pub expression : (braces : ℕ) → List ℕ → Option Read

-- The string of a form with which a text begins: its parts, if it ends within its reach, else one piece of all that lies in its reach.
abbrev pub string_at : Fewer → Form → List ℕ → Read
string_at fewer form text =
    let reach = within_reach form text in
    let beyond = drop (length reach) text in
    option_map_or (λ read. record { pieces = read.pieces; rest = read.rest ++ beyond })
    (fewer.parts form (opening_of form) (drop (length (opening_of form)) reach))
    (record { pieces = (UnterminatedString, reach) ∷ []; rest = beyond })

-- The next pieces of a text that isn't empty: a string, or one piece. A raw string is longer than the word `r`, so a string comes first.
abbrev pub next_at : Fewer → (first : Bool) → List ℕ → Read
next_at fewer first text = option_map_or (λ form. string_at fewer form text) (string_form text) (read_piece first text)

-- the class of the last piece of a string, and of one before an interpolation, by whether it is the first one, with the opening in it
abbrev pub last_class : (begun : List ℕ) → Class
last_class [] = StringClosing
last_class (byte ∷ bytes) = StringLiteral

-- a piece of a string before an interpolation, with what it begins with; one that is empty is left out
abbrev pub part_before : (begun plain : List ℕ) → List Spelled
part_before [] [] = []
part_before [] (byte ∷ bytes) = (StringPart, byte ∷ bytes) ∷ []
part_before (byte ∷ bytes) plain = (StringOpening, byte ∷ bytes ++ plain) ∷ []

-- an interpolation by name: `$` and the name, and the rest of the string behind it
abbrev pub name_row : Fewer → Form → List ℕ → Option Read
name_row fewer form text =
    let size = name_size (drop 1 text) in
    option_map (behind ((InterpolationMark, codes "$") ∷ (Word, take size (drop 1 text)) ∷ [])) (fewer.parts form [] (drop (1 + size) text))

-- an interpolation of an expression: `${`, the pieces of the expression with its `}`, and the rest of the string behind it
abbrev pub expression_row : Fewer → Form → List ℕ → Option Read
expression_row fewer form text =
    option_and_then (λ inner. option_map (behind ((InterpolationOpening, codes "${") ∷ inner.pieces)) (fewer.parts form [] inner.rest))
    (fewer.expression 0 (drop 2 text))

-- the string behind a piece that has ended: its quotes, an interpolation and more of it, or nothing, since the text ends first
abbrev pub after_plain : Fewer → Form → (begun plain : List ℕ) → List ℕ → Option Read
after_plain fewer form begun plain text =
    if begins text form.quotes then Some record { pieces = (last_class begun, begun ++ plain ++ form.quotes) ∷ []; rest = drop (length form.quotes) text }
    else option_map (behind (part_before begun plain))
    (if form.raw then None
    else (if begins text (codes "${") then expression_row fewer form text
    else (if begins_name text then name_row fewer form text else None)))

-- A string from a piece on that begins with these bytes, if it ends: plain bytes as far as they go, and what ends the piece.
abbrev pub parts_row : Fewer → Form → (begun : List ℕ) → List ℕ → Option Read
parts_row fewer form begun text =
    let size = plain_size form text in after_plain fewer form begun (take size text) (drop size text)

-- how many braces are open in an expression, behind the piece with which the text begins
abbrev pub braces_behind : ℕ → List ℕ → ℕ
braces_behind braces text = if begins text (codes "{") then braces + 1 else (if begins text (codes "}") then braces - 1 else braces)

-- What an interpolation holds behind its `${`, where so many braces are open in it: pieces up to the first `}` that closes none of these, if there is one.
abbrev pub expression_pieces : Fewer → (braces : ℕ) → List ℕ → Option Read
expression_pieces fewer braces [] = None
expression_pieces fewer braces (byte ∷ text) =
    if begins (byte ∷ text) (codes "}") && braces == 0 then Some record { pieces = (InterpolationClosing, codes "}") ∷ []; rest = text }
    else (let next = next_at fewer false (byte ∷ text) in
    option_map (behind next.pieces) (fewer.expression (braces_behind braces (byte ∷ text)) next.rest))

-- nothing is read where no step is left
abbrev pub no_steps : Fewer
no_steps = record { parts = λ form begun text. None; expression = λ braces text. None }

-- strings and interpolations within so many steps
unfoldable pub within_steps : ℕ → Fewer
within_steps zero = no_steps
within_steps (suc steps) = record { parts = parts_row (within_steps steps); expression = expression_pieces (within_steps steps) }

-- the pieces of a text, within so many steps
unfoldable pub pieces_within : (steps : ℕ) → (first : Bool) → List ℕ → List Spelled
pieces_within zero first text = []
pieces_within (suc steps) first [] = []
pieces_within (suc steps) first (byte ∷ text) =
    let next = next_at (within_steps (suc steps)) first (byte ∷ text) in next.pieces ++ pieces_within steps false next.rest

-- The pieces of a text, one after another. Each step takes a byte at least, so that there are steps enough.
unfoldable pub pieces : List ℕ → List Spelled
pieces text = pieces_within (length text) true text

-- the pieces of a text of which these are the classes and the sizes
unfoldable pub spelled : List Piece → List ℕ → List Spelled
spelled [] text = []
spelled (piece ∷ more) text = (piece.class, take piece.size text) ∷ spelled more (drop piece.size text)
