-- Steps behind an operand.
use Rattle.std.proofs.Common.{◌≡◌, ℕ, zero, suc, ◌+◌, ◌-◌, ◌<◌, ◌≤◌, Bool, true, false, List, [], ◌∷◌, length, drop, get_or, Option, Some, None, refl, sym, ap, ◌∙◌, arith}
use Rattle.std.specs.Prelude.{is_none}
use denote.Enum.Bare.{same_true}
use Rattle.readings.specs.Readings.{Reading}
use Rattle.readings.specs.Descent.{bind, climb, take_onto}
use Rattle.dart_tokens.specs.declared.token.Kind.{Kind}
use Rattle.dart_tokens.specs.declared.token.Kind.TheVariants as kind
use Rattle.dart_tokens.specs.declared.grouped_token.GroupedToken.{GroupedToken as Token}
use Rattle.grammar.specs.declared.level.Level.{Level}
use Rattle.grammar.specs.contracts.level.Level as levels_of
use Rattle.grammar.specs.declared.level.Setting.{Setting}
use Rattle.grammar.specs.declared.level.Setting.TheVariants as setting
use Rattle.grammar.specs.Tokens.{is}
use Rattle.grammar.specs.Operators.{table}
use Rattle.grammar.specs.Descents.{Lower, lower, take_cascade_section}
use Rattle.parse_leaves.specs.Next.{next_level, is_level}
use Rattle.parse_leaves.specs.Sizes.{higher_within}
use Rattle.dart_tree.specs.Heights.{higher}
use Rattle.parse_operators.specs.declared.extents.Extent.{Extent}
use Rattle.parse_operators.specs.Ends.{joined, goes_on, seen, side_extent, section_extent, rank, side_behind, behind_at, behind, comes_next, times_seen, all_behind}
use Rattle.parse_operators.proofs.Climbing.{level_at}
use Rattle.parse_operators.proofs.Next.{told, is_kind, no_right}

-- The level that comes next.

level_is : (which : Level) (found : Option Level) → is_level which found ≡ true → found ≡ Some which
level_is which None e = absurd (cc)
level_is which (Some k) e = ap (λ (l : Level). Some l) (same_true levels_of.the_type tt k which e)

none_is : (found : Option Level) → is_none found ≡ true → found ≡ None
none_is None e = refl
none_is (Some k) e = absurd (cc)

next_is : (which found : Option Level) → comes_next which found ≡ true → found ≡ which
next_is None found e = none_is found e
next_is (Some which) found e = level_is which found e

-- what stands behind is of the level that comes next
pub behind_next : (n : ℕ) (which : Option Level) (ts : List Token) (o : Option (Reading Token Extent)) → comes_next which (next_level ts) ≡ true → o ≡ behind n ts → behind_at n which ts ≡ o
behind_next n which ts o e found = ap (λ (l : Option Level). behind_at n l ts) (sym (next_is which (next_level ts) e)) ∙ sym found

no_level : (k : Kind) (t : Token) (ts : List Token) → told t ts k ≡ None → is_none (next_level (t ∷ ts)) ≡ false → is k t ≡ false
no_level k t ts none some = by (is k t) refl
  where
    by : (b : Bool) → is k t ≡ b → is k t ≡ false
    by true d = absurd (let at : next_level (t ∷ ts) ≡ None = ap (told t ts) (is_kind k t d) ∙ none in let there : is_none (next_level (t ∷ ts)) ≡ true = ap is_none at in cc)
    by false d = d

no_section : (m : Setting) (l : Lower) (ts : List Token) → is_none (next_level ts) ≡ false → take_cascade_section m l ts ≡ None
unfolding take_cascade_section
no_section m l [] e = absurd (cc)
no_section m l (t ∷ ts) e =
    let plain : is kind.PeriodPeriod t ≡ false = no_level kind.PeriodPeriod t ts refl e in
    let null_aware : is kind.QuestionPeriodPeriod t ≡ false = no_level kind.QuestionPeriodPeriod t ts refl e in
    rw (plain, null_aware) refl

-- nothing stands behind of a level that doesn't come next
pub behind_none : (n : ℕ) (which : Option Level) (ts : List Token) → comes_next which (next_level ts) ≡ false → behind_at n which ts ≡ None
behind_none n None ts e = ap (seen section_extent) (no_section setting.Plain (lower n) ts e)
behind_none n (Some which) ts e = ap (seen side_extent) (no_right setting.Plain (lower n) which (drop (rank which) table) ts e)

-- The levels of the table.

abbrev AreRanked : ℕ → List Level → Type 0
AreRanked k [] = Unit {0}
AreRanked k (r ∷ rs) = (rank r ≡ suc k) × AreRanked (suc k) rs

rank_at : (k : ℕ) (rs : List Level) (less : ℕ) (other : Level) → AreRanked k rs → less < length rs → rank (get_or rs less other) ≡ k + suc less
rank_at k [] less other all few = absurd (omega (arith, few))
rank_at k (r ∷ rs) zero other all few = omega (arith, all.0)
rank_at k (r ∷ rs) (suc less) other all few = omega (arith, rank_at (suc k) rs less other all.1 (omega (arith, few)))

ranked : AreRanked 0 table
ranked = (refl, (refl, (refl, (refl, (refl, (refl, (refl, (refl, (refl, (refl, (refl, (refl, tt))))))))))))

-- one more level
pub climb_more : (n less more : ℕ) (which other : Level) (x : Reading Token Extent) (left new : Extent) (us vs : List Token) → climb times_seen (goes_on n) joined (side_behind n) [] (drop more table) x ≡ Some (left, us) → 0 < more → more ≤ 12 → less ≡ more - 1 →
    which ≡ get_or table less other → all_behind n (Some which) left us ≡ Some (new, vs) → climb times_seen (goes_on n) joined (side_behind n) [] (drop less table) x ≡ Some (new, vs)
climb_more n less more which other x left new us vs so some few last at found =
    let place : rank which ≡ more = ap rank at ∙ rank_at 0 table less other ranked (omega (arith, some, few, last)) ∙ omega (arith, some, last) in
    ap (λ (rs : List Level). climb times_seen (goes_on n) joined (side_behind n) [] rs x) (level_at table less more which other some few last at)
    ∙ ap (λ (o : Option (Reading Token Extent)). bind o (λ y. take_onto [] (times_seen which y.0 y.1) (goes_on n) joined (side_behind n which (drop more table)) y.0 y.1)) so
    ∙ ap (λ (k : ℕ). take_onto [] (times_seen which left us) (goes_on n) joined (side_behind n which (drop k table)) left us) (sym place) ∙ found

-- Heights.

pub joined_deep : (left side both : Extent) → left.height ≤ 200 → side.height ≤ 200 → both ≡ joined [] left side → both.height ≤ 201
joined_deep left side both low few e =
    let height : both.height ≡ suc (higher left.height side.height) = ap (λ (x : Extent). x.height) e in
    omega (arith, height, higher_within left.height side.height 200 low few)
