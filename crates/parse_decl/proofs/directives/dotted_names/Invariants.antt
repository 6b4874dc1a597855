use Rattle.std.proofs.Common.{◌≡◌, ◌∷◌, map, take}
use Rattle.grammar.specs.Declarations.{listed}
use Rattle.parse_decl.proofs.directives.dotted_names.Given as goal

abbrev pub invariant-loop-other : goal.invariant-loop-other
invariant-loop-other l = l.list.items ≡ listed l.fn.first ∷ map (λ n. listed n.1) (take l.other-index l.others)
