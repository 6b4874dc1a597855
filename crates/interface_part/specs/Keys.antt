-- By what a seen token is looked for, and that each of these rises from one to the next.
use Rattle.std.specs.Prelude.{ℕ, ◌+◌, ◌<◌, ◌≤◌, List, [], ◌∷◌}
use Rattle.interface_part.specs.declared.numbers.Key.{Key}
use Rattle.interface_part.specs.declared.numbers.Key.TheVariants as key
use Rattle.interface_part.specs.declared.numbers.SeenToken.{SeenToken}

-- its number, where it begins, or where it ends
abbrev pub key_of : Key → SeenToken → ℕ
key_of key.Number s = s.number
key_of key.Start s = s.span.start
key_of key.End s = s.span.end

-- no token is empty, each begins behind the end of the one before it, the first no sooner than at an offset, and their numbers rise
abbrev pub SeenApart : (number from : ℕ) → List SeenToken → Type 0
SeenApart number from [] = Unit {0}
SeenApart number from (s ∷ seen) = (number ≤ s.number) × (from ≤ s.span.start) × (s.span.start < s.span.end) × SeenApart (s.number + 1) s.span.end seen
