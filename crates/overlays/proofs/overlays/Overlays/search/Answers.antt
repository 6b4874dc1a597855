use Rattle.std.proofs.Common.{rules}
use Rattle.std.proofs.lemmas.Fn.{always_returns_same}
use Rattle.overlays.proofs.Paths.{path_cmp}
use Rattle.overlays.proofs.Places.{searched}
use Rattle.overlays.proofs.overlays.Overlays.search.Goals as goal

-- the closure compares an overlay's path, and the slice is the overlays
pub returns : goal.returns
returns c =
    let facts = c.binary_search_by.ensures in
    let by_path = facts.position (λ e. path_cmp e.0 c.args.path.now) (always_returns_same _ _ _ (λ a r f called. search rules)) in
    rw (← c.self.view_is, ← c.deref.ensures.value) (searched _ (rw c.deref.ensures.value c.self.invariant) c.args.path.now _ facts.bound by_path)
