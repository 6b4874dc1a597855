use Rattle.check_files.specs.Lent.{table_view}
use Rattle.check_files.specs.Sources.{own_faults, source_of}
use Rattle.check_files.proofs.AgainLemmas.{left_next, next_of, of_old}
use Rattle.check_files.proofs.again.by_path.Goals as goal

pub keep-requires : goal.keep-requires
keep-requires c =
    let source = next_of source_of (table_view c.args.files.now) c.loop-file.file-index c.next-source.result _ _ _ _ c.loop-file.invariant.0 c.next-source.ensures.variant c.next-source.ensures.items c.next-source.ensures.len in
    let own = next_of (λ file. own_faults file.1) (table_view c.args.files.now) c.loop-file.file-index c.next-own.result _ _ _ _ c.loop-file.invariant.1 c.next-own.ensures.variant c.next-own.ensures.items c.next-own.ensures.len in
    of_old c.args.files.now c.loop-file.file-index c.file-item.result _ c.next-source.result c.next-own.result c.loop-file-test.true c.file-item.is source.next_is own.next_is

pub loop-file-preserved : goal.loop-file-preserved
loop-file-preserved c =
    let source = next_of source_of (table_view c.args.files.now) c.loop-file.file-index c.next-source.result _ _ _ _ c.loop-file.invariant.0 c.next-source.ensures.variant c.next-source.ensures.items c.next-source.ensures.len in
    let own = next_of (λ file. own_faults file.1) (table_view c.args.files.now) c.loop-file.file-index c.next-own.result _ _ _ _ c.loop-file.invariant.1 c.next-own.ensures.variant c.next-own.ensures.items c.next-own.ensures.len in (
      left_next source_of (table_view c.args.files.now) c.loop-file.file-index c.next-source.result _ _ source,
      left_next (λ file. own_faults file.1) (table_view c.args.files.now) c.loop-file.file-index c.next-own.result _ _ own,
    )
