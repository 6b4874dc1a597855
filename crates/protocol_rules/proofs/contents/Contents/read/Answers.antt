use Rattle.protocol_rules.proofs.WithinLemmas.{are_kept_in}
use Rattle.protocol_rules.proofs.contents.Contents.read.Goals as goal

pub snapshot-requires : goal.snapshot-requires
snapshot-requires g c = rw (c.as_slice.ensures.value, c.in_ok-kept.ensures) (are_kept_in c.self.inside.snapshot c.self.inside.overlays c.paths_are_in_order.ensures c.self.invariant)
