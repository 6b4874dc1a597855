use Rattle.std.proofs.Common.{◌∙◌, ap, sym}
use Rattle.check_library.proofs.Reports.{put_all, put_all-push, put_all-none}
use Rattle.check_library.proofs.order.sorted.Goals as goal

pub loop-fault-init : goal.loop-fault-init
loop-fault-init c = ap (put_all c.args.faults.items) c.new-reported.ensures.empty ∙ put_all-none c.args.faults.items

pub loop-fault-preserved : goal.loop-fault-preserved
loop-fault-preserved c =
    ap (put_all c.pop.new.self.items) c.in_ok-insert.ensures.keys
    ∙ sym (put_all-push c.pop.new.self.items c.in-Some.fault c.loop-fault.reported.keys)
    ∙ ap (λ faults. put_all faults c.loop-fault.reported.keys) (sym c.in-Some.ensures.items)
    ∙ c.loop-fault.invariant
