-- What comes next: the level that it begins, and whether a type in front of a name may.
use Rattle.std.specs.Prelude.{ℕ, Bool, false, not, ◌&&◌, ◌||◌, List, [], ◌∷◌, drop, Option, Some, None, if◌then◌else◌}
use Rattle.std.specs.Option.{option_map_or}
use denote.Enum.Bare.{sameb}
use Rattle.readings.specs.Readings.{Test, next}
use Rattle.dart_tokens.specs.declared.token.Kind.TheVariants as kind
use Rattle.dart_tokens.specs.declared.grouped_token.GroupedToken.{GroupedToken as Token}
use Rattle.grammar.specs.declared.level.Level.{Level}
use Rattle.grammar.specs.declared.level.Level.TheVariants as level
use Rattle.grammar.specs.contracts.level.Level as levels_of
use Rattle.grammar.specs.declared.level.Sign.{Sign}
use Rattle.grammar.specs.declared.level.Sign.TheVariants as sign
use Rattle.grammar.specs.Tokens.{is, is_either, is_name, heads}
use Rattle.grammar.specs.Types.{heads_qualified}
use Rattle.grammar.specs.Operators.{level_of, sign_at}

-- the level of an operator, if it stands between two operands
abbrev pub level_of_sign : Sign → Option Level
level_of_sign (sign.Binary operator) = Some (level_of operator)
level_of_sign (sign.Assign compound) = None

-- the level of `?`, `is` and `as`
abbrev pub level_of_word : Token → Option Level
level_of_word t = if is kind.Question t then Some level.Conditional else if is_either kind.Is kind.As t then Some level.Relation else None

-- the level that what comes next begins behind an operand, if it begins one
abbrev pub next_level : List Token → Option Level
next_level [] = None
next_level (t ∷ ts) = option_map_or (λ s. level_of_sign s.0) (sign_at (t ∷ ts)) (level_of_word t)

-- the level that comes next is this one
abbrev pub is_level : Level → Option Level → Bool
is_level l found = option_map_or (λ k. sameb levels_of.the_type k l) found false

-- behind the name of a type: the type goes on with this token, or a name or `this` stands there
abbrev pub goes_on_type : Token → Bool
goes_on_type t = is_name t || is kind.Less t || is kind.Question t || is kind.This t

-- how many tokens the name of a type takes that would begin here
abbrev pub type_name_size : List Token → ℕ
type_name_size ts = if heads_qualified ts then 3 else 1

-- No type in front of a name or of `this` comes next: the name of one would be the whole type, and neither stands behind it.
abbrev pub heads_untyped : Test Token
heads_untyped ts = not (heads kind.Function ts) && next (λ t. not (goes_on_type t)) (drop (type_name_size ts) ts)
