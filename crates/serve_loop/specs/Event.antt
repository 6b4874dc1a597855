-- What a server hears, one event after another.
use Rattle.std.specs.Prelude.{ℕ, Bool, List, length, nat_le, if◌then◌else◌}
use Rattle.serve_loop.specs.declared.heard.Heard.{Heard}
use Rattle.serve_loop.specs.declared.heard.Heard.TheVariants.{Line, TooLong}

-- a line within the limit for a line, without its line feed, or that a line is too long
pub data Event : Type 0 where
  line : (bytes : List ℕ) → Event
  too_long : Event

-- the event that an answerer is handed
abbrev pub event_of : Heard → Event
event_of (Line bytes) = line bytes.now
event_of TooLong = too_long

-- the event of a line, under a limit for a line
abbrev pub event_of_line : ℕ → List ℕ → Event
event_of_line limit bytes = if nat_le (length bytes) limit then line bytes else too_long

-- the event of a line of which these bytes are shown and which was found too long or not
abbrev pub event_shown : List ℕ → Bool → Event
event_shown bytes is_too_long = if is_too_long then too_long else line bytes
