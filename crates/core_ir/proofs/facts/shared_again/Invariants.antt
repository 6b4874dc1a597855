use Rattle.std.proofs.Common.{◌≡◌, take}
use Rattle.core_ir.proofs.facts.shared_again.Given as goal

-- the facts so far are copied
abbrev pub invariant-loop-fact : goal.invariant-loop-fact
invariant-loop-fact l = l.copied.items ≡ take l.fact-index l.listed
