-- Where an expression ends, without its tree.
use Rattle.std.specs.Prelude.{◌≡◌, ◌≤◌, ℕ, suc, ◌-◌, nat_lt, not, ◌&&◌, Bool, true, false, List, [], length, drop, Option, Some, None, option_map, is_none, if◌then◌else◌}
use Rattle.std.specs.BTreeMap.{BTreeMap, get}
use Rattle.std.specs.Ordering.{nat_cmp}
use Rattle.readings.specs.Readings.{Reading}
use Rattle.readings.specs.Descent.{Descent, bind, climb, take_onto, ◌▸◌}
use Rattle.readings.specs.Values.{Maybe}
use Rattle.dart_tree.specs.Tree.{Tree}
use Rattle.dart_tree.specs.Heights.{higher, height}
use Rattle.dart_tokens.specs.declared.grouped_token.GroupedToken.{GroupedToken as Token}
use Rattle.grammar.specs.declared.level.Level.{Level}
use Rattle.grammar.specs.declared.level.Level.TheVariants as level
use Rattle.grammar.specs.declared.level.Setting.TheVariants as setting
use Rattle.grammar.specs.Operators.{table, take_assignment}
use Rattle.grammar.specs.Expressions.{Side, operated, tested, cast, choices, times, reads_on, is_incremented}
use Rattle.grammar.specs.Descents.{lower, take_right, take_cascade_section, take_expression}
use Rattle.parse_leaves.specs.Next.{next_level, is_level}
use Rattle.parse_operators.specs.declared.extents.Extent.{Extent}

-- where an expression ends, with so many nodes on a way down below it
abbrev pub end_of : ℕ → List Token → Option (List Token)
end_of n ts = option_map (λ x. x.1) (take_expression n setting.Plain (lower n) ts)

-- Extents: what may stand behind an expression hangs on how high it is, on whether it has taken all that can, and on whether a selector can stand there.

abbrev pub extent_of : Tree → Extent
extent_of t = record { height = height t; reads_on = reads_on t; incremented = is_incremented t }

abbrev pub side_extent : Side → Extent
side_extent (operated operator right) = extent_of right
side_extent (tested negated written) = record { height = height written; reads_on = false; incremented = false }
side_extent (cast written) = record { height = height written; reads_on = false; incremented = false }
side_extent (choices then_value else_value) = record { height = higher (height then_value) (height else_value); reads_on = true; incremented = false }

abbrev pub section_extent : Bool × Tree → Extent
section_extent x = extent_of x.1

-- an expression of the first with the second behind it
abbrev pub joined : List Token → Extent → Extent → Extent
joined read left side = record { height = suc (higher left.height side.height); reads_on = side.reads_on; incremented = side.incremented }

-- something may stand behind it, where so many nodes may lie below a node
abbrev pub goes_on : ℕ → Extent → Bool
goes_on n e = not (nat_lt n e.height) && not e.reads_on

-- what was read, by its extent
abbrev pub seen : {A : Type 0} → (A → Extent) → Option (Reading Token A) → Option (Reading Token Extent)
seen view o = option_map (λ x. (view x.0, x.1)) o

-- Behind operands.

-- how many levels bind no more than this one
abbrev pub rank : Level → ℕ
rank level.Conditional = 1
rank level.IfNull = 2
rank level.Or = 3
rank level.And = 4
rank level.Equality = 5
rank level.Relation = 6
rank level.BitOr = 7
rank level.BitXor = 8
rank level.BitAnd = 9
rank level.Shift = 10
rank level.Sum = 11
rank level.Product = 12

-- what an operator of a level adds, behind which operands of the levels stand that bind more
abbrev pub side_behind : ℕ → Level → List Level → Descent Token Extent
side_behind n which above ts = seen side_extent (take_right setting.Plain (lower n) which above ts)

-- what a level adds, or with no level a section of a cascade
abbrev pub behind_at : ℕ → Option Level → Descent Token Extent
behind_at n (Some which) ts = side_behind n which (drop (rank which) table) ts
behind_at n None ts = seen section_extent (take_cascade_section setting.Plain (lower n) ts)

-- what stands behind an operand, by the level that comes next
abbrev pub behind : ℕ → Descent Token Extent
behind n ts = behind_at n (next_level ts) ts

-- how often a level may go on behind an operand
abbrev pub times_seen : Level → Extent → List Token → ℕ
times_seen which left ts = times setting.Plain which left.incremented ts

-- how often a level, or a cascade, may
abbrev pub times_at : Option Level → Extent → List Token → ℕ
times_at (Some which) left ts = times_seen which left ts
times_at None left ts = length ts

-- the level comes next, or with no level none does
abbrev pub comes_next : Option Level → Option Level → Bool
comes_next (Some which) found = is_level which found
comes_next None found = is_none found

-- as often as a level, or a cascade, goes on behind an operand
abbrev pub all_behind : ℕ → Option Level → Extent → Descent Token Extent
all_behind n which left ts = take_onto [] (times_at which left ts) (goes_on n) joined (behind_at n which) left ts

-- where an assignment ends to what has been read, if one comes
abbrev pub assignment_behind : ℕ → Extent → List Token → Option (List Token)
assignment_behind n left ts = if goes_on n left then option_map (λ x. x.1) ((take_assignment ▸ (lower n).expression setting.Plain) ts) else None

-- all levels behind an operand, and the sections of a cascade behind them: where they end
abbrev pub cascade_behind : ℕ → Extent → List Token → Option (List Token)
cascade_behind n left ts = option_map (λ x. x.1) (bind (climb times_seen (goes_on n) joined (side_behind n) [] table (left, ts)) (λ x. all_behind n None x.0 x.1))

-- Places of a text.

-- a text, and how many nodes may lie on a way down below its expressions
pub record Places : Type 0 where
  pub tokens : List Token
  pub room : ℕ

-- what stands behind the operand before which so many tokens are left: its extent, and how many tokens are left behind it
abbrev pub behind_place : Places → ℕ → Option (Extent × ℕ)
behind_place s left = option_map (λ x. (x.0, length x.1)) (behind s.room (drop (length s.tokens - left) s.tokens))

-- what is kept of a place is so
pub record IsBehind (s : Places) (left : ℕ) (kept : Option (Extent × ℕ)) : Type 0 where
  pub same : kept ≡ behind_place s left
  pub deep : Maybe (λ x. x.0.height ≤ 200) kept

-- all that is kept is so
pub record IsKnown (s : Places) (places : BTreeMap ℕ (Option (Extent × ℕ))) : Type 0 where
  pub each : (left : ℕ) (kept : Option (Extent × ℕ)) → get nat_cmp places left ≡ Some kept → IsBehind s left kept
