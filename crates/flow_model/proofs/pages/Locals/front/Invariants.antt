use Rattle.std.proofs.Common.{◌≡◌, ◌≤◌, length, take}
use Rattle.std.specs.Prelude.{min}
use Rattle.flow_model.proofs.pages.Locals.front.Given as goal

abbrev pub invariant-loop-left : goal.invariant-loop-left
invariant-loop-left l = (l.first ≡ take l._left l.self) × (min l.count (length l.self) ≤ l._left)
