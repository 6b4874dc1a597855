use Rattle.std.proofs.Common.{◌≡◌, ◌≤◌, length}
use Rattle.token_tests.proofs.group_rows.grouped.Given as goal

-- as many tokens have come as were looked at
abbrev pub invariant-loop-token : goal.invariant-loop-token
invariant-loop-token l = (length l.grouping ≡ l.token-index) × (l.token-index ≤ length l.tokens)
