use Rattle.elaborate.proofs.LookEntries.{is_indexed}
use Rattle.elaborate.proofs.said.Said.new.Goals as goal

pub invariant_of-result : goal.invariant_of-result
invariant_of-result c =
    is_indexed c.args.first c.args.count c.args.typed.now c.in_ok-entries.entries.items c.in_ok-nowhere.nowhere c.requires c.in_ok-entries.ensures c.in_ok-nowhere.ensures
