use Rattle.std.proofs.Common.{◌≡◌, ◌++◌, flat_map, take}
use Rattle.check_files.specs.Reports.{findings_in_file}
use Rattle.check_files.proofs.reports.add_files.Given as goal

abbrev pub invariant-loop-one : goal.invariant-loop-one
invariant-loop-one l = l.findings.items ≡ l.initial.findings.items ++ flat_map (findings_in_file l.own) (take l.one-index l.found)
