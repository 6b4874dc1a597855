-- What the echo of the tests answers.
use Rattle.std.specs.Prelude.{ℕ, List, [], ◌∷◌, ◌++◌, Option, None, Some}
use Rattle.fault_io.specs.Lines.{line_feed}
use Rattle.serve_loop.specs.Event.{Event, line, too_long}

-- a line with its line feed, nothing for an empty one, and `?` for one that is too long
abbrev pub echo_of : Event → Option (List ℕ)
echo_of (line []) = None
echo_of (line (byte ∷ bytes)) = Some ((byte ∷ bytes) ++ line_feed ∷ [])
echo_of too_long = Some (63 ∷ line_feed ∷ [])
