use Rattle.std.proofs.Common.{sym, subst}
use Rattle.load_files.specs.Tables.{Table}
use Rattle.protocol_rules.specs.Limits.{AreWithin}
use Rattle.protocol_rules.proofs.WithinLemmas.{within_by}
use Rattle.protocol_rules.proofs.contents.Contents.with_overlays.Goals as goal

pub invariant_of-result : goal.invariant_of-result
invariant_of-result c = subst (λ (t : Table). AreWithin t c.args.overlays) (sym c.in_ok-snapshot.ensures) (within_by c.self.inside.snapshot c.args.overlays (sym c.if-passes_limit.ensures))
