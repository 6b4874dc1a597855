use Rattle.std.proofs.Common.{◌≡◌, ℕ, ◌+◌, ◌≤◌, ◌<◌, ◌∷◌, length, map, Some, option_map, drop, suc}
use Rattle.grammar.specs.Statements.{case_size, case_size_at}
use Rattle.parse_statements.proofs.switches.behind_case.Given as goal

abbrev pub invariant-loop-more : goal.invariant-loop-more
invariant-loop-more l = record {
  reading : drop (case_size l.tokens) l.tokens ≡ drop (case_size_at l.more l.rest) l.rest;
}

abbrev pub decreases-loop-more : goal.decreases-loop-more
decreases-loop-more l = l.more
