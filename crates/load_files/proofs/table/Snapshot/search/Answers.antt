use Rattle.std.proofs.Common.{rules}
use Rattle.std.proofs.lemmas.Fn.{always_returns_same}
use Rattle.load_files.specs.Tables.{path_cmp}
use Rattle.load_files.proofs.Places.{searched}
use Rattle.load_files.proofs.table.Snapshot.search.Goals as goal

-- the closure compares a file's path, and the slice is the files
pub returns : goal.returns
returns c =
    let facts = c.binary_search_by.ensures in
    let by_path = facts.position (λ f. path_cmp f.0 c.args.path.now) (always_returns_same _ _ _ (λ a r f called. search rules)) in
    rw (← c.self.view_is, ← c.deref.ensures.value) (searched _ (rw c.deref.ensures.value c.self.invariant) c.args.path.now _ facts.bound by_path)
