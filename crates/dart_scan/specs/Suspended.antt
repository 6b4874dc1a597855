-- What is still to come of the pieces of a text, where strings are open: each of them goes on behind what stands in it, and one that never ends takes the place of its pieces.
use Rattle.std.specs.Prelude.{ℕ, false, List, [], ◌∷◌, ◌++◌, length, Option, Some, None, option_map, option_and_then}
use Rattle.dart_scan.specs.declared.piece.Class.TheVariants.{UnterminatedString}
use Rattle.dart_scan.specs.Strings.{Form}
use Rattle.dart_scan.specs.Pieces.{Spelled, Read, Fewer, behind, within_steps, pieces_within}

-- strings and interpolations with as many steps as their text has bytes, which are enough
abbrev pub enough : Fewer
enough = record {
  parts = λ form begun text. (within_steps (length text)).parts form begun text;
  expression = λ braces text. (within_steps (length text)).expression braces text;
}

-- the pieces of a text before which others stand
abbrev pub pieces_behind : List ℕ → List Spelled
pieces_behind text = pieces_within (length text) false text

-- an open string: its form, the pieces before it, its text as far as it may reach, what stands beyond that, and how many braces are open in the interpolation in which it is suspended
pub record Suspended : Type 0 where
  pub form : Form
  pub before : List Spelled
  pub reach : List ℕ
  pub beyond : List ℕ
  pub braces : ℕ

-- the pieces of a text in which a string ends as it is read, or never ends, where it is said how the text goes on behind pieces
abbrev pub finished : (around : List Spelled → List ℕ → List Spelled) → Suspended → (done : List Spelled) → Option Read → List Spelled
finished around string done None = around (string.before ++ (UnterminatedString, string.reach) ∷ []) string.beyond
finished around string done (Some read) = around (done ++ read.pieces) (read.rest ++ string.beyond)

-- the rest of a string behind an interpolation of which this is read
abbrev pub then_parts : Form → Option Read → Option Read
then_parts form read = option_and_then (λ inner. option_map (behind inner.pieces) (enough.parts form [] inner.rest)) read

-- the pieces of a text of which these are done, where strings are open, the innermost first, and an expression in it goes on with this text
unfoldable pub resumed : List Suspended → (done : List Spelled) → List ℕ → List Spelled
resumed [] done text = done ++ pieces_behind text
resumed (string ∷ around) done text = finished (resumed around) string done (then_parts string.form (enough.expression string.braces text))

-- the same, where a string goes on with a piece that begins with these bytes
abbrev pub resumed_within : Suspended → List Suspended → (done : List Spelled) → (begun : List ℕ) → List ℕ → List Spelled
resumed_within string around done begun text = finished (resumed around) string done (enough.parts string.form begun text)
