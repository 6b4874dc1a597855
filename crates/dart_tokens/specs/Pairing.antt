-- Partners while only the first of some tokens have been read.
use Rattle.std.specs.Prelude.{◌≡◌, ℕ, ◌+◌, ◌<◌, Bool, not, ◌&&◌, List, length, slice_index_or, if◌then◌else◌, Option, None, Some, is_some, option_and_then}
use Rattle.dart_tokens.specs.declared.token.Kind.{Kind}
use Rattle.dart_tokens.specs.Groups.{Open, opens, closes, nearest, is_open}

-- the group that began at a place is open first, and then isn't
abbrev pub is_ended : (place : ℕ) → (first then_open : List Open) → Bool
is_ended place first then_open = is_open place first && not (is_open place then_open)

-- the groups that end have this place as partner, and all other partners stay
pub record EndsAt (place : ℕ) (first then_open : List Open) (old new : List (Option ℕ)) : Type 0 where
  pub count : length new ≡ length old
  pub at : (k : ℕ) → slice_index_or new k None ≡ (if is_ended k first then_open then Some place else slice_index_or old k None)

-- the partner of a token: of one that opens a group, the place behind all tokens
abbrev pub partner_so_far : (end : ℕ) → Kind → List Open → Option ℕ
partner_so_far end kind around = if is_some (opens kind) then Some end else option_and_then (λ bracket. nearest bracket around) (closes kind)

-- one token more: the groups that end have it as partner, all other partners stay, and it has its own
pub record Takes (end : ℕ) (kind : Kind) (first then_open : List Open) (old new : List (Option ℕ)) : Type 0 where
  pub count : length new ≡ length old + 1
  pub before : (k : ℕ) → k < length old → slice_index_or new k None ≡ (if is_ended k first then_open then Some (length old) else slice_index_or old k None)
  pub own : slice_index_or new (length old) None ≡ partner_so_far end kind first
