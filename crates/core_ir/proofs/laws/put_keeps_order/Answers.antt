use Rattle.core_ir.proofs.Puts.{put_order}
use Rattle.core_ir.proofs.laws.put_keeps_order.Goals as goal

pub returns : goal.returns
returns c = put_order
