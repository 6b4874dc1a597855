use Rattle.std.proofs.Common.{◌≡◌, ◌++◌, drop}
use Rattle.dart_tokens.specs.Read.{all_from, all_tokens}
use Rattle.dart_tokens.proofs.tokens.put_together.Given as goal

abbrev pub invariant-loop-bracket : goal.invariant-loop-bracket
invariant-loop-bracket l = all_tokens l.read l.unopened ≡ l.all.items ++ all_from l.before l.others (drop l.bracket-index l.unopened)
