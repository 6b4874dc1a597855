-- The last levels of the table of operators: those that bind more than some level, or all.
use Rattle.std.proofs.Common.{◌≡◌, ℕ, ◌+◌, ◌-◌, ◌≤◌, List, length, drop, refl, sym, ap, ◌∙◌, arith}
use Rattle.std.proofs.lemmas.List.{drop-drop, length-drop}
use Rattle.grammar.specs.declared.level.Level.{Level}
use Rattle.grammar.specs.Operators.{table}

-- as many levels of the table as these are, counted from its end, are these
unfoldable pub AreLastLevels : List Level → Type 0
AreLastLevels above = drop (length table - length above) table ≡ above

-- all levels
pub last_all : (above : List Level) → above ≡ table → AreLastLevels above
unfolding AreLastLevels
last_all above e = rw e refl

-- last levels without some of their first ones
pub last_behind : (above : List Level) (more : ℕ) → more ≤ length above → AreLastLevels above → AreLastLevels (drop more above)
unfolding AreLastLevels
last_behind above more few last =
    let same : 12 - (12 - length above) ≡ length above = sym (length-drop (12 - length above) table) ∙ ap length last in
    let at : 12 - length (drop more above) ≡ (12 - length above) + more = omega (arith, few, same, length-drop more above) in
    ap (λ k. drop k table) at ∙ sym (drop-drop more (12 - length above) table) ∙ ap (drop more) last
