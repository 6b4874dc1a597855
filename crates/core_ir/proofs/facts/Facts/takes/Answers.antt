use Rattle.std.proofs.Common.{◌≡◌, ◌-◌, length, get_or, ap, ◌∙◌, arith}
use Rattle.core_ir.proofs.Orders.{all_before}
use Rattle.core_ir.proofs.facts.Facts.takes.Goals as goal

-- the last fact stands for all
pub returns : goal.returns
returns c =
    let count : c.len-count.result ≡ length c.args.self.now.listed = c.len-count.ensures in
    let some = c.if-count-eq0.false in
    let read : c.at.result.now ≡ get_or c.args.self.now.listed (length c.args.self.now.listed - 1) c.at.result.now = c.at.ensures ∙ ap (λ n. get_or c.args.self.now.listed (n - 1) c.at.result.now) count in
    all_before c.args.self.now.listed c.at.result.now c.args.slot.0 c.are_in_order.ensures (omega arith) read
