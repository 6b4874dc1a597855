use Rattle.std.proofs.Common.{◌≡◌, ◌++◌, take}
use Rattle.interface_part.specs.Interface.{lexemes}
use Rattle.interface_part.proofs.shown.with_lexemes.Given as goal

abbrev pub invariant-loop-at : goal.invariant-loop-at
invariant-loop-at l = l.more ≡ l.initial.more ++ take l.at (lexemes l.words l.tokens)
