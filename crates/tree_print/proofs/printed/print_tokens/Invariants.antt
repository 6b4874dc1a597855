use Rattle.std.proofs.Common.{◌≡◌, ◌++◌, drop, string_bytes}
use Rattle.tree_print.specs.Printed.{printed}
use Rattle.tree_print.proofs.printed.print_tokens.Given as goal

abbrev pub invariant-loop-at : goal.invariant-loop-at
invariant-loop-at l = printed l.words l.tokens ≡ string_bytes l.text ++ printed l.words (drop l.at l.tokens)
