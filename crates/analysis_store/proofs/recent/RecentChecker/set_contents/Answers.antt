use Rattle.analysis_store.proofs.recent.RecentChecker.set_contents.Goals as goal

pub invariant_of-self : goal.invariant_of-self
invariant_of-self c = c.earlier.ensures _
