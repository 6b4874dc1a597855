use Rattle.std.proofs.Common.{◌≡◌, ℕ, List, drop}
use Rattle.std.specs.BTreeMap.{get_by_text}
use Rattle.std.specs.List.{position_from}
use Rattle.element_terms.specs.Declarations.{declares}
use Rattle.element_terms.proofs.name_tables.name_table.Given as goal

-- the table of the declarations that were seen, which are the last
abbrev pub invariant-loop-place : goal.invariant-loop-place
invariant-loop-place l = (q : List ℕ) → get_by_text l.table q ≡ position_from (λ d. declares d q) l.place (drop l.place l.declared)
