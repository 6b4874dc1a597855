use Rattle.std.proofs.Common.{◌≡◌, vec_len}
use Rattle.check_files.specs.Findings.{sorted_findings}
use Rattle.check_files.proofs.Placing.{put_all}
use Rattle.check_files.proofs.findings.sorted.Given as goal

abbrev pub invariant-loop-finding : goal.invariant-loop-finding
invariant-loop-finding l = put_all l.findings.items l.reported.keys ≡ sorted_findings l.initial.findings.items

abbrev pub decreases-loop-finding : goal.decreases-loop-finding
decreases-loop-finding l = vec_len l.findings
