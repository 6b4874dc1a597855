-- Where groups end.
use Rattle.std.specs.Prelude.{ℕ, zero, suc, ◌+◌, ◌==◌, nat_lt, List, [], ◌∷◌, length, if◌then◌else◌, Option, None, Some}
use Rattle.dart_tokens.specs.declared.grouped_token.GroupedToken.{GroupedToken as Token}

-- how many groups of some tokens end with the token at a place: those of the tokens before it of which it is the last one
abbrev pub ending : (place : ℕ) → List Token → ℕ
ending zero text = 0
ending (suc between) [] = 0
ending (suc between) (t ∷ ts) = (if t.width == suc between then 1 else 0) + ending between ts

-- Ends of groups, the nearest first.

-- the ends that don't come before a place
abbrev pub ahead : (place : ℕ) → List ℕ → List ℕ
ahead place [] = []
ahead place (end ∷ ends) = if nat_lt end place then ahead place ends else end ∷ ends

-- one end more
abbrev pub inserted : (end : ℕ) → List ℕ → List ℕ
inserted end [] = end ∷ []
inserted end (nearest ∷ ends) = if nat_lt nearest end then nearest ∷ inserted end ends else end ∷ (nearest ∷ ends)

-- without the nearest
abbrev pub farther : List ℕ → List ℕ
farther [] = []
farther (end ∷ ends) = ends

-- the 101 that are farthest, of no more than one more
abbrev pub farthest : List ℕ → List ℕ
farthest ends = if nat_lt 101 (length ends) then farther ends else ends

-- the nearest
abbrev pub nearest : List ℕ → Option ℕ
nearest [] = None
nearest (end ∷ ends) = Some end
