use Rattle.std.proofs.Common.{arith}
use Rattle.element_terms.proofs.SetterNames.{setter_then, setter_else}
use Rattle.element_terms.proofs.names.is_setter_in_bytes.Goals as goal

pub returns : goal.returns
returns c = setter_then c.args.name.now c.args.setter.now (omega arith) (omega arith) c.eq.result c.eq.ensures

pub returns-then-setter-name-ne61 : goal.returns-then-setter-name-ne61
returns-then-setter-name-ne61 c = setter_else c.args.name.now c.args.setter.now (omega arith) (λ e. omega (arith, e))
