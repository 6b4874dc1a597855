-- Brackets by their places among tokens.
use Rattle.std.specs.Prelude.{◌≡◌, ℕ, ◌<◌, ◌≤◌, List, length, slice_get, slice_index_or, Option, None, Some, option_and_then, IsSome, IsSomeAnd}
use Rattle.dart_tokens.specs.declared.token.Token.{Token}
use Rattle.dart_tokens.specs.Groups.{Bracket, Interpolation, opens, closes, partners_of}

-- the group that the token at a place opens
abbrev pub opens_at : List Token → (place : ℕ) → Option Bracket
opens_at tokens place = option_and_then (λ token. opens token.kind) (slice_get tokens place)

-- the group that the token at a place closes
abbrev pub closes_at : List Token → (place : ℕ) → Option Bracket
closes_at tokens place = option_and_then (λ token. closes token.kind) (slice_get tokens place)

-- the partner of the token at a place
abbrev pub partner_at : List Token → (place : ℕ) → Option ℕ
partner_at tokens place = slice_index_or (partners_of tokens) place None

-- the token at a place opens a group
abbrev pub OpensGroup : List Token → (place : ℕ) → Type 0
OpensGroup tokens place = IsSome (opens_at tokens place)

-- the token at a place closes a group
abbrev pub ClosesGroup : List Token → (place : ℕ) → Type 0
ClosesGroup tokens place = IsSome (closes_at tokens place)

-- the token at a place has this one as partner
abbrev pub HasPartner : List Token → (place partner : ℕ) → Type 0
HasPartner tokens place partner = partner_at tokens place ≡ Some partner

-- A token opens a group, and a later one closes it: it is of the kind that this one closes, and has this one as partner.
pub record ArePaired (tokens : List Token) (opening closing : ℕ) : Type 0 where
  pub before : opening < closing
  pub kind : opens_at tokens opening ≡ closes_at tokens closing
  pub partner : partner_at tokens opening ≡ Some closing

-- a group ends behind the token that opens it, and no later than all tokens
pub record EndsBehind (tokens : List Token) (opening end : ℕ) : Type 0 where
  pub behind : opening < end
  pub within : end ≤ length tokens

-- The token at a place opens a group that is open before the token at a later one: the group ends there, or later.
pub record IsOpenAt (tokens : List Token) (opening place : ℕ) : Type 0 where
  pub opener : IsSome (opens_at tokens opening)
  pub before : opening < place
  pub until : IsSomeAnd (partner_at tokens opening) (λ end. place ≤ end)

-- A bracket can close a group: this one is of its kind and is open there, and no interpolation that began since is.
pub record CanClose (tokens : List Token) (closing opening : ℕ) : Type 0 where
  pub kind : opens_at tokens opening ≡ closes_at tokens closing
  pub stays : IsOpenAt tokens opening closing
  pub inside : (border : ℕ) → opening < border → opens_at tokens border ≡ Some Interpolation → IsOpenAt tokens border closing → ⊥

-- of the groups that a bracket can close the one that began last
pub record IsNearest (tokens : List Token) (closing opening : ℕ) : Type 0 where
  pub can : CanClose tokens closing opening
  pub last : (other : ℕ) → CanClose tokens closing other → other ≤ opening

-- a bracket closes a group that began at a place, or before it
pub record ClosesAround (tokens : List Token) (closing opening : ℕ) : Type 0 where
  pub outer : ℕ
  pub order : outer ≤ opening
  pub closer : IsSome (closes_at tokens closing)
  pub partner : partner_at tokens closing ≡ Some outer
