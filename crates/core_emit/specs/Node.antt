-- The form of code as it is kept, whose parts are values already.
use Rattle.core_emit.specs.Code.{Code, nothing, leaf, sequence, in_order, choice, loop}
use Rattle.core_emit.specs.declared.code.CodeNode.{CodeNode}
use Rattle.core_emit.specs.declared.code.CodeNode.TheVariants as node

-- the code of a form
abbrev pub code_of : CodeNode → Code
code_of node.Nothing = nothing
code_of (node.Leaf site facts step) = leaf site facts step
code_of (node.Pair pair) = sequence pair.value.first pair.value.second
code_of (node.InOrder parts) = in_order parts.items
code_of (node.Choice one) = choice one.value.site one.value.facts one.value.test one.value.first one.value.second
code_of (node.Loop one) = loop one.value.site one.value.head one.value.facts one.value.condition one.value.test one.value.body
