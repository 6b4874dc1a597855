use Rattle.std.specs.Vec.Iter.{into_iter_items, into_iter_len}
use Rattle.check_files.specs.Lent.{table_view}
use Rattle.check_files.specs.Sources.{own_faults, source_of}
use Rattle.check_files.proofs.AgainLemmas.{IsLeft}
use Rattle.check_files.proofs.again.by_path.Given as goal

abbrev pub invariant-loop-file : goal.invariant-loop-file
invariant-loop-file l =
    IsLeft source_of (table_view l.files) l.file-index (into_iter_items l.sources) (into_iter_len l.sources)
    × IsLeft (λ file. own_faults file.1) (table_view l.files) l.file-index (into_iter_items l.faults) (into_iter_len l.faults)
