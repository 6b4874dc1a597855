use Rattle.std.specs.Prelude.{All, Contains}
use Rattle.type_bounds.specs.Above.{depth_in, IsShared}
use Rattle.type_bounds.proofs.Deepest.{NotAloneAbove}
use Rattle.type_bounds.proofs.superclasses.Pair.deepest.Given as goal

-- the top is a superinterface of both, and none that is farther from Object is alone
abbrev pub invariant-loop-limit : goal.invariant-loop-limit
invariant-loop-limit l =
    Contains l.self.left.superinterfaces.now l.top × IsShared l.self l.top × All (NotAloneAbove l.self l.top) l.self.left.superinterfaces.now

abbrev pub decreases-loop-limit : goal.decreases-loop-limit
decreases-loop-limit l = depth_in l.self l.top
