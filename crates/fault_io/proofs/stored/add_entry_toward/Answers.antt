use Rattle.fault_io.proofs.StoredLemmas.{adds-Some}
use Rattle.fault_io.proofs.stored.add_entry_toward.Goals as goal

pub returns-clause-holds : goal.returns-clause-holds
returns-clause-holds c = λ entry.
    adds-Some _ _ entry _ _ c.in-Some.ensures (c.in_ok-add_entry.ensures.holds entry)
