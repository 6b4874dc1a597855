-- So many levels, counted from the end of the table.
use Rattle.std.proofs.Common.{◌≡◌, ℕ, ◌-◌, ◌≤◌, List, length, drop, Result, refl, sym, ap, subst, arith}
use Rattle.readings.specs.Readings.{Reading}
use Rattle.dart_tree.specs.Tree.{Tree}
use Rattle.dart_tokens.specs.declared.grouped_token.GroupedToken.{GroupedToken as Token}
use Rattle.grammar.specs.declared.level.Level.{Level}
use Rattle.grammar.specs.declared.level.Setting.{Setting}
use Rattle.grammar.specs.Operators.{table}
use Rattle.grammar.specs.Descents.{Lower}
use Rattle.parse_leaves.specs.declared.miss.Miss.{Miss}
use Rattle.parse_leaves.specs.Answers.{Gives}
use Rattle.parse_leaves.specs.LastLevels.{AreLastLevels, last_all, last_behind}
use Rattle.parse_expr.specs.Parts.{last_levels}

-- they are last levels
pub last_counted : (levels : ℕ) (above : List Level) → above ≡ last_levels levels → AreLastLevels above
last_counted levels above e =
    let few : length table - levels ≤ length table = omega arith in
    subst AreLastLevels (sym e) (last_behind table (length table - levels) few (last_all table refl))

counted : (above : List Level) → AreLastLevels above → last_levels (length above) ≡ above
unfolding AreLastLevels
counted above last = last

-- last levels are known by their number
pub gives_counted : {X : Type 0} (view : X → Reading Token Tree) (r : Result X Miss) (l : Lower) (m : Setting) (above : List Level) (ts : List Token) → AreLastLevels above →
    Gives view r (l.operand m (last_levels (length above)) ts) → Gives view r (l.operand m above ts)
gives_counted view r l m above ts last g = subst (λ o. Gives view r o) (ap (λ us. l.operand m us ts) (counted above last)) g
