-- How what a scope's declarations hide is put back.
use Rattle.std.specs.Prelude.{ℕ, List, [], ◌∷◌, Option, Some, None}
use Rattle.std.specs.FinMap.{insert, remove}
use Rattle.flow_model.specs.declared.locals.LocalId.{LocalId}
use Rattle.judgement.specs.Surroundings.{Names}
use Rattle.resolve.specs.declared.names.Shadowed.{Shadowed}

-- the word means this local, or none
abbrev pub with_local : Names → ℕ → Option LocalId → Names
with_local names word None = remove names word
with_local names word (Some local) = insert names word local

-- the hidden word means again what it meant before
abbrev pub restored : Names → Shadowed → Names
restored names hidden = with_local names hidden.word hidden.before

-- all that was hidden is put back, the last of it first
abbrev pub undone : Names → List Shadowed → Names
undone names [] = names
undone names (first ∷ rest) = restored (undone names rest) first
