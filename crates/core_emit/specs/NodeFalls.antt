-- Code is nested deeper than each part of it.
use Rattle.std.specs.Prelude.{◌+◌, ◌≤◌, max, List, [], ◌∷◌}
use Rattle.std.proofs.Common.{arith}
use denote.Param.Weighed.{most}
use Rattle.core_emit.specs.Code.{Code, in_order, height_of}
use Rattle.core_emit.specs.Node.{code_of}
use Rattle.core_emit.specs.declared.code.CodeNode.{CodeNode}
use Rattle.core_emit.specs.declared.code.CodeNode.TheVariants as node
use Rattle.core_emit.specs.declared.code.Code.TheDeep.{deep-CodeNode}

-- parts one after another are
pub parts_fall : (parts : List Code) → most (λ c. height_of c + 1) parts ≤ height_of (in_order parts)
parts_fall [] = omega arith
parts_fall (part ∷ parts) = omega (arith, parts_fall parts)

-- so is each form
pub node_falls : (n : CodeNode) → max (deep-CodeNode n) 0 ≤ height_of (code_of n)
node_falls node.Nothing = omega arith
node_falls (node.Leaf site facts step) = omega arith
node_falls (node.Pair pair) = omega arith
node_falls (node.InOrder parts) = omega (arith, parts_fall parts.items)
node_falls (node.Choice one) = omega arith
node_falls (node.Loop one) = omega arith
