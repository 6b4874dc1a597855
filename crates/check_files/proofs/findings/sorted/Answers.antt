use Rattle.std.proofs.Common.{◌∙◌, ap, sym}
use Rattle.check_files.proofs.Placing.{put_all, put_all-push, put_all-none}
use Rattle.check_files.proofs.findings.sorted.Goals as goal

pub loop-finding-init : goal.loop-finding-init
loop-finding-init c = ap (put_all c.args.findings.items) c.new-reported.ensures.empty ∙ put_all-none c.args.findings.items

pub loop-finding-preserved : goal.loop-finding-preserved
loop-finding-preserved c =
    ap (put_all c.pop.new.self.items) c.in_ok-insert.ensures.keys
    ∙ sym (put_all-push c.pop.new.self.items c.in-Some.finding c.loop-finding.reported.keys)
    ∙ ap (λ findings. put_all findings c.loop-finding.reported.keys) (sym c.in-Some.ensures.items)
    ∙ c.loop-finding.invariant
