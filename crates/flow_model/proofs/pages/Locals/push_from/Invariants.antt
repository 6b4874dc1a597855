use Rattle.std.proofs.Common.{◌≡◌, ◌++◌, drop}
use Rattle.flow_model.proofs.pages.Locals.push_from.Given as goal

-- with the others from the place on it is the whole
abbrev pub invariant-loop-place : goal.invariant-loop-place
invariant-loop-place l = l.self ++ drop l.place l.others ≡ l.fn.self ++ drop l.from l.others
