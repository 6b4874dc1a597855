use Rattle.std.proofs.Common.{[]}
use Rattle.core_ir.proofs.Puts.{puts_in_order}
use Rattle.core_ir.proofs.laws.put_lists_in_order.Goals as goal

pub returns : goal.returns
returns c facts order = puts_in_order [] facts order
