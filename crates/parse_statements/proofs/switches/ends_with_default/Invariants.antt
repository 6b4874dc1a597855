use Rattle.std.proofs.Common.{◌≡◌, ℕ, ◌+◌, ◌≤◌, ◌<◌, ◌∷◌, length, map, Some, option_map, drop, suc}
use Rattle.grammar.specs.Statements.{ends_with_default}
use Rattle.parse_statements.proofs.switches.ends_with_default.Given as goal

abbrev pub invariant-loop-more : goal.invariant-loop-more
invariant-loop-more l = record {
  reading : ends_with_default l.cases ≡ ends_with_default l.rest;
  count : l.more ≡ length l.rest;
}

abbrev pub decreases-loop-more : goal.decreases-loop-more
decreases-loop-more l = l.more
