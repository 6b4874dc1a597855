use Rattle.std.proofs.Common.{◌≡◌, flat_map, take}
use Rattle.check_files.specs.Reports.{findings_in_library}
use Rattle.check_files.proofs.reports.findings_in.Given as goal

abbrev pub invariant-loop-library : goal.invariant-loop-library
invariant-loop-library l =
    l.findings.items ≡ flat_map (findings_in_library l.linked.sources.items l.linked.heads.items l.linked.aims.items l.linked.faults.items l.linked.elements.items l.linked.spaces.items) (take l.library-index l.libraries)
