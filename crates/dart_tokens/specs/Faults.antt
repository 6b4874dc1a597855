-- What the partners of all tokens show of the faults of one.
use Rattle.std.specs.Prelude.{ℕ, ◌==◌, Bool, false, not, ◌&&◌, List, slice_index_or, if◌then◌else◌, Option, None, Some, is_some}
use Rattle.std.specs.Option.{option_map_or}
use Rattle.dart_tokens.specs.declared.token.Kind.{Kind}
use Rattle.dart_tokens.specs.declared.groups.GroupFaultKind.{GroupFaultKind}
use Rattle.dart_tokens.specs.declared.groups.GroupFaultKind.TheVariants.{UnclosedGroup, UnopenedGroup}
use Rattle.dart_tokens.specs.Groups.{opens, closes}

-- the partner is the token at this place
abbrev pub is_place : (place : ℕ) → (partner : Option ℕ) → Bool
is_place place partner = option_map_or (λ other. other == place) partner false

-- the token at a place is the partner of its partner
abbrev pub is_mutual : List (Option ℕ) → (place : ℕ) → Bool
is_mutual partners place = option_map_or (λ other. is_place place (slice_index_or partners other None)) (slice_index_or partners place None) false

-- what is wrong with a token at a place
abbrev pub fault_by : List (Option ℕ) → (place : ℕ) → Kind → Option GroupFaultKind
fault_by partners place kind =
    if is_some (opens kind) then (if is_mutual partners place then None else Some UnclosedGroup)
    else (if is_some (closes kind) && not (is_some (slice_index_or partners place None)) then Some UnopenedGroup else None)
