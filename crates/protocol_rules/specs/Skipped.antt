-- Lines that get no reply.
use Rattle.std.specs.Prelude.{ℕ, List, Bool, ◌==◌, ◌||◌}
use Rattle.std.specs.List.{list_all}

-- space, tab and carriage return
abbrev pub is_blank : ℕ → Bool
is_blank byte = byte == 32 || (byte == 9 || byte == 13)

abbrev pub is_skipped : List ℕ → Bool
is_skipped line = list_all is_blank line
