use Rattle.std.proofs.Common.{◌≡◌, take}
use Rattle.request_core.proofs.rows.paths.Given as goal

abbrev pub invariant-loop-path : goal.invariant-loop-path
invariant-loop-path l = l.paths.items ≡ take l.path-index l.listed
